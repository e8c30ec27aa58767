use Rattle.std.proofs.Common.{◌∙◌, sym, ap, subst, [], ◌<◌, ℕ, ◌≤◌, arith, rules, OnOk, FitsSigned, w64, to_z, of_z}
use Rattle.std.proofs.lemmas.Int.{to_z-of_z}
use Rattle.dr_base.specs.declared.key.Key.{Key}
use Rattle.dr_ask.specs.Once.{asked_once}
use Rattle.dr_answers.specs.Groups.{bucket, grouped_values}
use Rattle.dr_columns.specs.Rows.{key_at}
use Rattle.dr_image.specs.Table.{row_at}
use Rattle.dr_partial.specs.Grouped.{Adds}
use Rattle.dr_partial.specs.Partial.{kinds_in}
use Rattle.dr_partial.proofs.ByColumns.{run-added, IsOf}
use Rattle.dr_partial.proofs.whole_runs.add_whole_run.Goals as goal

pub returns : goal.returns
returns c =
    let s = c.args.source.now in
    let q = asked_once s.query.now in
    let t = s.view.now in
    let fits : FitsSigned w64 c.bucket_start-bucket.result = search rules in
    let time : FitsSigned w64 c.time_at.result = search rules in
    let start = to_z-of_z w64 c.bucket_start-bucket.result fits ∙ c.bucket_start-bucket.ensures ∙ ap (bucket q) (to_z-of_z w64 c.time_at.result time ∙ c.time_at.ensures.value) in
    let k : Key = record { time = to_z w64 (of_z w64 c.bucket_start-bucket.result); dims = [] } in
    let own : (i : ℕ) → c.args.from ≤ i → i < c.args.to → IsOf q k (row_at t i) = λ i le lt. (
      sym (s.selected i (omega (arith, lt, c.requires.within))) ∙ c.requires.every i,
      (λ j. record { time = (c.requires.same i le lt ∙ sym start) j; dims = grouped_values (c.requires.plain j) (key_at t i).dims }),
    ) in
    run-added q t c.args.from c.args.to c.args.groups.now c.add_folds.new.groups k _ c.add_folds.result c.requires.some own c.in_ok-folds.ensures
    (subst (λ l. OnOk c.add_folds.result (Adds (kinds_in l) c.args.groups.now (record { key = k; metrics = c.in_ok-folds.folds }) c.add_folds.new.groups)) c.distinct.ensures c.add_folds.ensures)
