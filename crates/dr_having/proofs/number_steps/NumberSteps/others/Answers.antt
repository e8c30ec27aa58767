use Rattle.std.proofs.Common.{◌∙◌, not}
use Rattle.dr_having.specs.Steps.{is_among}
use Rattle.dr_having.proofs.Turning.{others-turned}
use Rattle.dr_having.proofs.number_steps.NumberSteps.others.Goals as goal

pub returns : goal.returns
returns c = λ value. others-turned c.self.inside.within c.self.inside.cuts.items value ∙ (λ k. not (is_among (c.self.view_is k) value))
