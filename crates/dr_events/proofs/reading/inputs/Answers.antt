use Rattle.std.proofs.Common.{◌≡◌, ap, sym, ◌∙◌, get_or, Some, None, FitsSigned, w64, rules}
use Rattle.std.proofs.lemmas.Int.{to_z-of_z}
use Rattle.dr_agg.specs.declared.kind.Kind.TheVariants.{Count}
use Rattle.dr_events.specs.declared.input.Input.{Input}
use Rattle.dr_events.specs.declared.unparseable.Unparseable.TheVariants.{BadMetric}
use Rattle.dr_events.specs.MetricInput.{input_by}
use Rattle.dr_events.specs.Scalars.{input_value, inputs_seen}
use Rattle.dr_events.proofs.EachColumn.{AreSoFar-more, AreSoFar-stop, AreSoFar-all, get_or-any}
use Rattle.dr_events.proofs.reading.inputs.Goals as goal

pub returns-in-None : goal.returns-in-None
returns-in-None c =
    let found = c.args.found.now in
    let xs = c.args.metrics.now in
    let i = c.loop-place.place in
    let m : Input = get_or xs i (record { kind = Count; field = None }) in
    let read : input_by m.kind (input_value found m.field) ≡ None = sym (ap (input_by m.kind) c.input_value.ensures) ∙ sym c.metric_input.ensures ∙ c.in-None.is in
    λ _. AreSoFar-stop (λ (input : Input). input_by input.kind (input_value found input.field)) BadMetric c.loop-place.inputs.items c.args.metrics.now c.loop-place.place (inputs_seen c.args.metrics.now found) m c.loop-place-test.true (get_or-any xs i (record { kind = Count; field = None }) m c.loop-place-test.true) read c.loop-place.invariant

pub loop-place-preserved : goal.loop-place-preserved
loop-place-preserved c =
    let found = c.args.found.now in
    let xs = c.args.metrics.now in
    let i = c.loop-place.place in
    let m : Input = get_or xs i (record { kind = Count; field = None }) in
    let read : input_by m.kind (input_value found m.field) ≡ Some c.in-Some.input = sym (ap (input_by m.kind) c.input_value.ensures) ∙ sym c.metric_input.ensures ∙ c.in-Some.is in
    let fits : FitsSigned w64 c.in-Some.input = search rules in
    let pushed = simp to_z-of_z at c.in_ok-push-in-Some.ensures.items in
    rw pushed (AreSoFar-more (λ (input : Input). input_by input.kind (input_value found input.field)) BadMetric c.loop-place.inputs.items c.args.metrics.now c.loop-place.place (inputs_seen c.args.metrics.now found) m c.in-Some.input c.loop-place-test.true (get_or-any xs i (record { kind = Count; field = None }) m c.loop-place-test.true) read c.loop-place.invariant)

pub returns : goal.returns
returns c =
    let found = c.args.found.now in
    let xs = c.args.metrics.now in
    let i = c.loop-place.place in
    rw c.from_vec.ensures (AreSoFar-all (λ (input : Input). input_by input.kind (input_value found input.field)) BadMetric c.loop-place.inputs.items c.args.metrics.now c.loop-place.place (inputs_seen c.args.metrics.now found) c.loop-place-test.false c.loop-place.invariant)
