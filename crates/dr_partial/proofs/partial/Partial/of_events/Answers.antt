use Rattle.std.proofs.Common.{◌≡◌, sym, subst, map}
use Rattle.std.specs.List.{AllByRecursion, flat_map}
use Rattle.dr_base.specs.declared.row.Row.{Row}
use Rattle.dr_time.specs.Printed.{IsPrintable}
use Rattle.dr_rollup.specs.Unrolled.{unrolled}
use Rattle.dr_ask.specs.Once.{asked_once}
use Rattle.dr_partial.specs.Grouped.{in_order}
use Rattle.dr_partial.specs.Partial.{kinds_in, partial}
use Rattle.dr_partial.proofs.Made.{nothing-sound, made, instants, printable-partial}
use Rattle.dr_partial.proofs.partial.Partial.of_events.Goals as goal
use Rattle.dr_partial.proofs.partial.Partial.of_events.Goals.{In_ok-add_event_pieces}

pub add_event_pieces-requires-clause-sound : goal.add_event_pieces-requires-clause-sound
add_event_pieces-requires-clause-sound c = nothing-sound (kinds_in (asked_once c.args.query.now).aggregations) c.new-groups.result c.new-groups.ensures

value : (c : In_ok-add_event_pieces) → in_order c.add_event_pieces.new.groups ≡ partial (asked_once c.args.query.now) (map (unrolled c.args.schema.now) (flat_map (λ p. p.now) c.args.pieces.now))
value c =
    made (asked_once c.args.query.now) c.new-groups.result (map (unrolled c.args.schema.now) (flat_map (λ p. p.now) c.args.pieces.now)) c.add_event_pieces.new.groups c.new-groups.ensures c.in_ok-add_event_pieces.ensures

pub returns-clause-value : goal.returns-clause-value
returns-clause-value c = value (goal.at.returns-clause-value c).In_ok-add_event_pieces

pub returns-clause-printable : goal.returns-clause-printable
returns-clause-printable c = λ starts.
    let rows = map (unrolled c.args.schema.now) (flat_map (λ p. p.now) c.args.pieces.now) in
    subst (AllByRecursion (λ (g : Row). IsPrintable g.key.time)) (sym (value (goal.at.returns-clause-printable c).In_ok-add_event_pieces))
    (printable-partial (asked_once c.args.query.now) starts rows (instants c.args.schema.now (flat_map (λ p. p.now) c.args.pieces.now) c.requires))
