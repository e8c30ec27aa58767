use Rattle.std.proofs.Common.{◌≡◌, ◌∙◌, rules, int_le}
use Rattle.std.proofs.lemmas.Fn.{always_returns_same}
use Rattle.dr_having.specs.Steps.{is_among}
use Rattle.dr_having.proofs.Turning.{steps-part, turned-at}
use Rattle.dr_having.proofs.number_steps.NumberSteps.contains.Goals as goal

pub returns : goal.returns
returns c =
    let items = c.deref.ensures.value in
    let number = c.args.number in
    let split = rw items at (c.partition_point-turns.ensures.partitioned (λ cut. int_le cut number) (always_returns_same _ (λ a r. r ≡ int_le a.0.now number) _ (λ a r f called. search rules))) in
    let sides = split (steps-part c.self.inside.cuts.items number c.self.invariant) in
    let within = rw items at c.partition_point-turns.ensures.bound in
    turned-at c.self.inside.within c.self.inside.cuts.items number c.partition_point-turns.result within sides.0 sides.1 ∙ (λ k. is_among (c.self.view_is k) number)
