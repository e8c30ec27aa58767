use Rattle.std.proofs.Common.{◌∙◌, ap, subst, [], slice_range, rules, OnOk, FitsSigned, w64, arith}
use Rattle.std.proofs.lemmas.Int.{to_z-of_z}
use Rattle.dr_ask.specs.Once.{asked_once}
use Rattle.dr_answers.specs.Fold.{folds}
use Rattle.dr_partial.specs.Grouped.{Adds}
use Rattle.dr_partial.specs.Partial.{kinds_in}
use Rattle.dr_rollup.proofs.Flat.{member}
use Rattle.dr_partial.proofs.Runs.{run-added}
use Rattle.dr_partial.proofs.arrived_runs.add_whole_run.Goals as goal

pub returns : goal.returns
returns c =
    let q = asked_once c.args.query.now in
    let rows = c.args.rows.now in
    let before = c.args.groups.now in
    let after = c.add_folds.new.groups in
    let values = c.in_ok-folds.folds in
    let fits : FitsSigned w64 c.args.bucket = search rules in
    let first = member rows c.args.from (omega (arith, c.requires.some, c.requires.within)) in
    run-added q rows c.args.from c.args.to before after c.args.bucket values first.0 c.add_folds.result c.requires.some c.requires.within first.1 c.requires.every c.requires.plain c.requires.same
    (c.in_ok-folds.ensures ∙ ap (λ l. folds l (slice_range rows c.args.from c.args.to)) c.distinct-aggregations.ensures)
    (subst (λ l. OnOk c.add_folds.result (Adds (kinds_in l) before (record { key = record { time = c.args.bucket; dims = [] }; metrics = values }) after)) c.distinct-aggregations.ensures (rw (to_z-of_z w64 c.args.bucket fits) at c.add_folds.ensures))
