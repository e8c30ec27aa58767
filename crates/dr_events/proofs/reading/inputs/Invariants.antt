use Rattle.dr_events.specs.declared.input.Input.{Input}
use Rattle.dr_events.specs.declared.unparseable.Unparseable.TheVariants.{BadMetric}
use Rattle.dr_events.specs.MetricInput.{input_by}
use Rattle.dr_events.specs.Scalars.{input_value, inputs_seen}
use Rattle.dr_events.proofs.EachColumn.{AreSoFar}
use Rattle.dr_events.proofs.reading.inputs.Given as goal

abbrev pub invariant-loop-place : goal.invariant-loop-place
invariant-loop-place l = AreSoFar (λ (input : Input). input_by input.kind (input_value l.found input.field)) BadMetric l.inputs.items l.metrics l.place (inputs_seen l.metrics l.found)
