use Rattle.std.proofs.Common.{◌≡◌, ◌∙◌, sym, subst, true, slice_range, arith, rules, FitsSigned, w64}
use Rattle.std.proofs.lemmas.Int.{to_z-of_z}
use Rattle.std.specs.List.{AllByRecursion}
use Rattle.dr_base.specs.declared.row.Row.{Row}
use Rattle.dr_partial.specs.Runs.{IsWithin}
use Rattle.dr_partial.proofs.Runs.{one-last, pushed}
use Rattle.dr_partial.proofs.Windows.{within}
use Rattle.dr_partial.proofs.arrived_runs.run_end.Goals as goal

pub loop-i-preserved : goal.loop-i-preserved
loop-i-preserved c =
    let rows = c.args.rows.now in
    let w = c.args.window.now in
    let i = c.loop-i.i in
    let r : Row = record { key = record { time = c.row-time.result.0; dims = c.row-time.result.1.now }; metrics = c.row-time.result.2.now } in
    let fits : FitsSigned w64 r.key.time = search rules in
    let is = simp to_z-of_z at c.holds.ensures in
    let held : c.holds.result ≡ true = search rules in
    subst (AllByRecursion (IsWithin w)) (sym (one-last rows c.args.from i r c.loop-i.auto.i (omega (arith, c.loop-i-test.true, c.len-i-end.ensures)) c.row-time.ensures))
    (pushed (IsWithin w) (slice_range rows c.args.from i) r c.loop-i.invariant (within w r.key.time (sym is ∙ held)))
