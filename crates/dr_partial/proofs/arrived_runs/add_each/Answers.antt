use Rattle.std.proofs.Common.{subst, sym, slice_range, ◌∷◌, [], arith, rules, FitsSigned, w64}
use Rattle.std.proofs.lemmas.Int.{to_z-of_z}
use Rattle.dr_base.specs.declared.row.Row.{Row}
use Rattle.dr_ask.specs.Once.{asked_once}
use Rattle.dr_partial.specs.Grouped.{AddsAll}
use Rattle.dr_partial.specs.Runs.{LiesIn}
use Rattle.dr_partial.proofs.Pieces.{no-rows, more-rows}
use Rattle.dr_partial.proofs.Runs.{none, one-last, in-run}
use Rattle.dr_partial.proofs.arrived_runs.add_each.Goals as goal

pub loop-i-init : goal.loop-i-init
loop-i-init c =
    let before = c.args.groups.now in
    subst (λ l. AddsAll (asked_once c.args.query.now) before l before) (sym (none c.args.rows.now c.args.from)) (no-rows (asked_once c.args.query.now) before c.requires.sound)

pub add_held-requires-clause-held : goal.add_held-requires-clause-held
add_held-requires-clause-held c =
    let q = asked_once c.args.query.now in
    let r : Row = record { key = record { time = c.row-time.result.0; dims = c.row-time.result.1.now }; metrics = c.row-time.result.2.now } in
    let fits : FitsSigned w64 c.args.bucket = search rules in
    let own : FitsSigned w64 c.row-time.result.0 = search rules in
    rw (to_z-of_z w64 c.args.bucket fits, to_z-of_z w64 c.row-time.result.0 own) (in-run (λ x. LiesIn q c.args.bucket x.key.time) c.args.rows.now c.args.from c.args.to c.loop-i.i r c.loop-i.auto.i c.loop-i-test.true c.row-time.ensures c.requires.same)

pub loop-i-preserved : goal.loop-i-preserved
loop-i-preserved c =
    let q = asked_once c.args.query.now in
    let before = c.args.groups.now in
    let between = c.loop-i.groups in
    let after = c.add_held.new.groups in
    let rows = c.args.rows.now in
    let i = c.loop-i.i in
    let r : Row = record { key = record { time = c.row-time.result.0; dims = c.row-time.result.1.now }; metrics = c.row-time.result.2.now } in
    let own : FitsSigned w64 c.row-time.result.0 = search rules in
    let adds : AddsAll q between (r ∷ []) after = rw (to_z-of_z w64 c.row-time.result.0 own) at c.in_ok-last.ensures in
    subst (λ l. AddsAll q before l after) (sym (one-last rows c.args.from i r c.loop-i.auto.i (omega (arith, c.loop-i-test.true, c.requires.within)) c.row-time.ensures))
    (more-rows q before between after (slice_range rows c.args.from i) (r ∷ []) c.loop-i.invariant adds)
