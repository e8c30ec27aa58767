use Rattle.std.proofs.Common.{◌∙◌, ◌&&◌, int_le, w64}
use Rattle.std.proofs.lemmas.Int.{to_z-of_z}
use Rattle.dr_time.specs.Union.{union_holds, union_first_from}
use Rattle.dr_time.proofs.JoinedLemmas.{first-unique}
use Rattle.dr_time.proofs.UnionLemmas.{IsFirstTime-same, union_first_from-first}
use Rattle.dr_time.proofs.union.Union.first_from.Goals as goal

pub returns : goal.returns
returns c =
    let same = rw c.self.view_is at c.self.invariant in
    let joined = c.self.inside.joined in
    let from = c.args.from in
    let first = IsFirstTime-same (λ t. int_le from t && union_holds joined t) (λ t. int_le from t && union_holds c.args.self.now t) (union_first_from from joined) (λ t i. int_le from t && same t i) (union_first_from-first from joined) in
    (rw (to_z-of_z w64 c.args.from c.ranges.from) at c.first_from.ensures) ∙ first-unique (λ t. int_le from t && union_holds c.args.self.now t) (union_first_from from joined) (union_first_from from c.args.self.now) first (union_first_from-first from c.args.self.now)
