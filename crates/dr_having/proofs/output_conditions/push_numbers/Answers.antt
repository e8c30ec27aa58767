use Rattle.std.proofs.Common.{◌∙◌}
use Rattle.dr_having.specs.Collected.{are_numbers}
use Rattle.dr_having.specs.OutputMeets.{outputs_meet}
use Rattle.dr_having.specs.declared.asked_output.AskedOutput.TheVariants.{Number}
use Rattle.dr_having.proofs.Collecting.{asked-more, last-all}
use Rattle.dr_having.proofs.output_conditions.push_numbers.Goals as goal

pub loop-conditions-preserved : goal.loop-conditions-preserved
loop-conditions-preserved c = λ dims values.
    asked-more (are_numbers values) dims values c.loop-conditions.asked.items c.push.new.self.items (Number c.in_ok-asked.field-0) c.args.numbers.now c.loop-conditions.conditions-index c.conditions-item.result
    c.loop-conditions-test.true c.conditions-item.is c.in_ok-push.ensures.items (c.in_ok-asked.ensures values)
    ∙ c.loop-conditions.invariant dims values

pub returns : goal.returns
returns c = λ dims values.
    last-all (are_numbers values) c.args.numbers.now c.loop-conditions.conditions-index (outputs_meet dims values c.loop-conditions.asked.items) c.loop-conditions-test.false
    ∙ c.loop-conditions.invariant dims values
