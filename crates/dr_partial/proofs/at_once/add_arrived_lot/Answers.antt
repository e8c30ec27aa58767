use Rattle.std.proofs.Common.{◌∙◌, subst, sym, ap, Some, slice_range, ◌∷◌, [], arith, rules, FitsSigned, w64}
use Rattle.std.proofs.lemmas.Int.{to_z-of_z}
use Rattle.dr_base.specs.declared.row.Row.{Row}
use Rattle.dr_time.specs.Instant.{IsInstant}
use Rattle.dr_filter.specs.Condition.{condition_in}
use Rattle.dr_ask.specs.Once.{asked_once}
use Rattle.dr_answers.specs.Selection.{passes}
use Rattle.dr_partial.specs.Grouped.{AddsAll}
use Rattle.dr_partial.proofs.AtOnce.{told-in}
use Rattle.dr_partial.proofs.Pieces.{no-rows, more-rows}
use Rattle.dr_partial.proofs.Runs.{none, one-last, member}
use Rattle.dr_partial.proofs.at_once.add_arrived_lot.Goals as goal

pub loop-i-init : goal.loop-i-init
loop-i-init c =
    let before = c.args.groups.now in
    subst (λ l. AddsAll (asked_once c.args.query.now) before l before) (sym (none c.args.rows.now c.args.from)) (no-rows (asked_once c.args.query.now) before c.requires.sound)

pub add_told-requires-clause-passed : goal.add_told-requires-clause-passed
add_told-requires-clause-passed c =
    let r : Row = record { key = record { time = c.row-time.result.0; dims = c.row-time.result.1.now }; metrics = c.row-time.result.2.now } in
    let own : FitsSigned w64 c.row-time.result.0 = search rules in
    rw (to_z-of_z w64 c.row-time.result.0 own)
    (c.contains.ensures
    ∙ told-in (λ (r : Row). passes (Some (condition_in c.args.filter.now)) r.key) c.args.rows.now c.args.from c.args.to c.loop-i.i r c.in_ok-told.told c.in_ok-told.ensures c.loop-i.auto.i c.loop-i-test.true c.requires.within c.row-time.ensures
    ∙ ap (λ f. passes f r.key) (sym c.requires.filter))

pub add_told-requires-clause-instant : goal.add_told-requires-clause-instant
add_told-requires-clause-instant c =
    let r : Row = record { key = record { time = c.row-time.result.0; dims = c.row-time.result.1.now }; metrics = c.row-time.result.2.now } in
    let own : FitsSigned w64 c.row-time.result.0 = search rules in
    rw (to_z-of_z w64 c.row-time.result.0 own) (member (λ (x : Row). IsInstant x.key.time) c.args.rows.now c.loop-i.i r c.row-time.ensures c.requires.instants)

pub loop-i-preserved : goal.loop-i-preserved
loop-i-preserved c =
    let q = asked_once c.args.query.now in
    let before = c.args.groups.now in
    let between = c.loop-i.groups in
    let after = c.add_told.new.groups in
    let rows = c.args.rows.now in
    let i = c.loop-i.i in
    let r : Row = record { key = record { time = c.row-time.result.0; dims = c.row-time.result.1.now }; metrics = c.row-time.result.2.now } in
    let own : FitsSigned w64 c.row-time.result.0 = search rules in
    let adds : AddsAll q between (r ∷ []) after = rw (to_z-of_z w64 c.row-time.result.0 own) at c.in_ok-add_told.ensures in
    subst (λ l. AddsAll q before l after) (sym (one-last rows c.args.from i r c.loop-i.auto.i (omega (arith, c.loop-i-test.true, c.requires.within)) c.row-time.ensures))
    (more-rows q before between after (slice_range rows c.args.from i) (r ∷ []) c.loop-i.invariant adds)
