use Rattle.std.proofs.Common.{◌≡◌, ◌∙◌, sym, ap, subst, map}
use Rattle.std.specs.List.{AllByRecursion, flat_map}
use Rattle.dr_agg.specs.Rollup.{all_rows}
use Rattle.dr_base.specs.declared.row.Row.{Row}
use Rattle.dr_time.specs.Instant.{IsInstant}
use Rattle.dr_time.specs.Printed.{IsPrintable}
use Rattle.dr_ask.specs.Once.{asked_once}
use Rattle.dr_partial.specs.Grouped.{in_order}
use Rattle.dr_partial.specs.Partial.{kinds_in, partial}
use Rattle.dr_partial.proofs.Made.{nothing-sound, made, pieces-of, printable-partial}
use Rattle.dr_partial.proofs.partial.Partial.of_rows.Goals as goal
use Rattle.dr_partial.proofs.partial.Partial.of_rows.Goals.{In_ok-add_pieces}

pub add_pieces-requires-clause-sound : goal.add_pieces-requires-clause-sound
add_pieces-requires-clause-sound c = nothing-sound (kinds_in (asked_once c.args.query.now).aggregations) c.new-groups.result c.new-groups.ensures

pub add_pieces-requires-clause-instants : goal.add_pieces-requires-clause-instants
add_pieces-requires-clause-instants c = subst (AllByRecursion (λ (r : Row). IsInstant r.key.time)) (pieces-of (λ p. p.now) c.args.pieces.now) c.requires

value : (c : In_ok-add_pieces) → in_order c.add_pieces.new.groups ≡ partial (asked_once c.args.query.now) (all_rows (map (λ p. p.now) c.args.pieces.now))
value c =
    made (asked_once c.args.query.now) c.new-groups.result (flat_map (λ p. p.now) c.args.pieces.now) c.add_pieces.new.groups c.new-groups.ensures c.in_ok-add_pieces.ensures
    ∙ ap (partial (asked_once c.args.query.now)) (sym (pieces-of (λ p. p.now) c.args.pieces.now))

pub returns-clause-value : goal.returns-clause-value
returns-clause-value c = value (goal.at.returns-clause-value c).In_ok-add_pieces

pub returns-clause-printable : goal.returns-clause-printable
returns-clause-printable c = λ starts.
    subst (AllByRecursion (λ (g : Row). IsPrintable g.key.time)) (sym (value (goal.at.returns-clause-printable c).In_ok-add_pieces)) (printable-partial (asked_once c.args.query.now) starts (all_rows (map (λ p. p.now) c.args.pieces.now)) c.requires)
