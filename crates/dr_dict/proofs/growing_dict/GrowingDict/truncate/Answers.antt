use Rattle.std.proofs.Common.{◌∙◌, ◌≤◌, ap, arith, length}
use Rattle.std.proofs.lemmas.List.{length-take}
use Rattle.dr_dict.proofs.Texts.{distinct-take}
use Rattle.dr_dict.proofs.growing_dict.GrowingDict.truncate.Goals as goal

pub invariant_of-self : goal.invariant_of-self
invariant_of-self c =
    let within : length c.self.inside.texts.keys ≤ c.self.inside.limit = c.self.invariant.0 in
    let fewer = ap length c.truncate.ensures.keys ∙ length-take c.args.len c.self.inside.texts.keys in
    (omega (arith, fewer, within), c.self.invariant.1, rw c.truncate.ensures.keys (distinct-take c.args.len _ c.self.invariant.2))
