use Rattle.std.proofs.Common.{◌∙◌, ◌&&◌}
use Rattle.dr_having.specs.Collected.{all_numbers, all_texts}
use Rattle.dr_having.specs.OutputMeets.{outputs_meet}
use Rattle.dr_having.proofs.output_conditions.OutputConditions.asked.Goals as goal

pub returns : goal.returns
returns c = λ dims values.
    c.in_ok-push_texts.ensures dims values ∙ (λ k. c.in_ok-push_numbers.ensures dims values k && all_texts dims (c.as_slice-2.ensures.value k))
    ∙ (λ k. outputs_meet dims values (c.new-asked.ensures.items k) && all_numbers values (c.as_slice.ensures.value k) && all_texts dims c.args.self.now.texts.items)
