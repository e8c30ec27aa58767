use Rattle.std.proofs.Common.{◌≡◌, ap, sym, ◌∙◌, ℕ, get_or, Some, None}
use Rattle.dr_events.specs.declared.unparseable.Unparseable.TheVariants.{BadDimension}
use Rattle.dr_events.specs.DimensionValue.{dimension_value}
use Rattle.dr_events.specs.Scalars.{value_at, dims_seen}
use Rattle.dr_events.proofs.EachColumn.{AreSoFar-more, AreSoFar-stop, AreSoFar-all, get_or-any}
use Rattle.dr_events.proofs.reading.dimensions.Goals as goal

pub returns-in-None : goal.returns-in-None
returns-in-None c =
    let found = c.args.found.now in
    let xs = c.args.places.now in
    let i = c.loop-column.column in
    let item : ℕ = get_or xs i 0 in
    let read : dimension_value (value_at found item) ≡ None = sym (ap dimension_value c.value_at.ensures) ∙ sym c.in_ok-text.ensures ∙ c.in-None.is in
    λ _. AreSoFar-stop (λ place. dimension_value (value_at found place)) BadDimension c.loop-column.dims.items c.args.places.now c.loop-column.column (dims_seen c.args.places.now found) item c.loop-column-test.true (get_or-any xs i 0 item c.loop-column-test.true) read c.loop-column.invariant

pub loop-column-preserved : goal.loop-column-preserved
loop-column-preserved c =
    let found = c.args.found.now in
    let xs = c.args.places.now in
    let i = c.loop-column.column in
    let item : ℕ = get_or xs i 0 in
    let read : dimension_value (value_at found item) ≡ Some c.in-Some.text = sym (ap dimension_value c.value_at.ensures) ∙ sym c.in_ok-text.ensures ∙ c.in-Some.is in
    rw c.in_ok-push-in-Some.ensures.items (AreSoFar-more (λ place. dimension_value (value_at found place)) BadDimension c.loop-column.dims.items c.args.places.now c.loop-column.column (dims_seen c.args.places.now found) item c.in-Some.text c.loop-column-test.true (get_or-any xs i 0 item c.loop-column-test.true) read c.loop-column.invariant)

pub returns : goal.returns
returns c =
    let found = c.args.found.now in
    let xs = c.args.places.now in
    let i = c.loop-column.column in
    rw c.from_vec.ensures (AreSoFar-all (λ place. dimension_value (value_at found place)) BadDimension c.loop-column.dims.items c.args.places.now c.loop-column.column (dims_seen c.args.places.now found) c.loop-column-test.false c.loop-column.invariant)
