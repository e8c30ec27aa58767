use Rattle.std.proofs.Common.{◌≡◌, ℕ, ℤ, List, ◌∙◌, ap, ◌&&◌}
use Rattle.std.proofs.lemmas.Result.{IfOk-weaker}
use Rattle.dr_having.specs.Asked.{asked_meets}
use Rattle.dr_having.specs.Condition.{condition_in, meets}
use Rattle.dr_having.specs.Placed.{HaveNumbers}
use Rattle.dr_outputs.specs.Numbered.{numbers_by}
use Rattle.dr_having.proofs.having.Having.asked_together.Goals as goal

pub returns : goal.returns
returns c =
    let have : HaveNumbers c.args.numbers.now c.as_slice.result.now = rw c.as_slice.ensures.value c.in_ok-places.ensures in
    IfOk-weaker c.into_asked.result _ (λ h. (dims : List (List ℕ)) (values : List ℤ) → asked_meets dims (numbers_by c.args.numbers.now values) h ≡ meets dims (numbers_by c.args.numbers.now values) (condition_in c.args.self.now))
    (λ h told dims values.
    let by = numbers_by c.args.numbers.now values in
    told dims by ∙ c.in_ok-put.ensures c.args.numbers.now have dims values ∙ ap (λ b. b && meets dims by (condition_in c.args.self.now)) (c.new-asked.ensures dims by))
    c.into_asked.ensures
