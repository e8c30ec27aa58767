use Rattle.std.proofs.Common.{◌≡◌, ◌∙◌, ◌&&◌}
use Rattle.std.proofs.lemmas.Result.{IfOk-weaker}
use Rattle.dr_having.specs.JoinedSteps.{are_among}
use Rattle.dr_having.specs.Steps.{is_among}
use Rattle.dr_having.proofs.Turning.{halves-among}
use Rattle.dr_having.proofs.number_steps.NumberSteps.+shared_by.Goals as goal

pub returns : goal.returns
returns t c =
    let sets = c.args.sets.now in
    IfOk-weaker c.shared_with.result _ (λ s. (value : _) → is_among s value ≡ are_among sets value)
    (λ s is value. is value ∙ (λ k. c.in_ok-front.ensures value k && c.in_ok-behind.ensures value k)
    ∙ (λ k. are_among (c.split_at.ensures.front k) value && are_among (c.split_at.ensures.back k) value)
    ∙ halves-among value _ sets)
    c.shared_with.ensures
