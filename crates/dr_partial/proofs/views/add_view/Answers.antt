use Rattle.std.proofs.Common.{◌≡◌, ap, map, false, ◌&&◌, subst, ◌-◌, length, arith}
use Rattle.std.specs.List.{AllByRecursion, range_with_len}
use Rattle.dr_base.specs.declared.row.Row.{Row}
use Rattle.dr_ask.specs.Once.{asked_once}
use Rattle.dr_answers.specs.Selection.{selects, passes}
use Rattle.dr_image.specs.Table.{rows_of, row_at}
use Rattle.dr_columns.specs.Rows.{key_at}
use Rattle.dr_partial.proofs.ByColumns.{all-between, none-added}
use Rattle.dr_partial.proofs.views.add_view.Goals as goal

pub returns-then-is_apart : goal.returns-then-is_apart
returns-then-is_apart c =
    let q = asked_once c.args.query.now in
    let t = c.args.view.now in
    let n : length t.times - 0 ≡ length t.times = omega arith in
    none-added q (rows_of t) c.args.groups.now
    (subst (λ k. AllByRecursion (λ (r : Row). selects q r.key ≡ false) (map (row_at t) (range_with_len 0 k))) n (all-between (λ (r : Row). selects q r.key ≡ false) t 0 (length t.times) (omega arith) (λ i le lt. ap (λ b. b && passes q.filter (key_at t i)) (c.is_apart.ensures c.if-is_apart.true i lt))))
    c.requires
