use Rattle.std.proofs.Common.{◌∙◌, ◌+◌, ◌<◌, ◌≤◌, ap, sym, subst, arith}
use Rattle.std.specs.List.{count_by}
use Rattle.std.proofs.lemmas.List.{take_all}
use Rattle.std.proofs.lemmas.List.Sums.{count_by_more_no, count_by_more_yes, length-filter}
use Rattle.std.proofs.lemmas.Option.{get_or_from_slice_get}
use Rattle.dr_answers.specs.Selection.{selects}
use Rattle.dr_ask.specs.Asked.{asked}
use Rattle.dr_base.specs.declared.row.Row.{Row}
use Rattle.dr_scan.specs.Rows.{no_row}
use Rattle.dr_scan.proofs.counting.count_selected.Goals as goal

pub loop-i-preserved-then-not-branch : goal.loop-i-preserved-then-not-branch
loop-i-preserved-then-not-branch c =
    let q = asked c.args.query.now in
    let rows = c.args.rows.now in
    let less = subst (λ n. c.loop-i.i < n) c.len-i-end.ensures c.loop-i-test.true in
    let found = get_or_from_slice_get rows c.loop-i.i c.row_at-row.result no_row c.row_at-row.ensures in
    let is = ap (λ (r : Row). selects q r.key) found ∙ sym c.in_ok-is_selected.ensures ∙ c.if-not-branch.true in
    record {
      count = c.loop-i.invariant.count ∙ sym (count_by_more_no (λ (r : Row). selects q r.key) rows c.loop-i.i no_row less is);
      few = omega (arith, c.loop-i.invariant.few);
    }

pub loop-i-preserved : goal.loop-i-preserved
loop-i-preserved c =
    let q = asked c.args.query.now in
    let rows = c.args.rows.now in
    let less = subst (λ n. c.loop-i.i < n) c.len-i-end.ensures c.loop-i-test.true in
    let found = get_or_from_slice_get rows c.loop-i.i c.row_at-row.result no_row c.row_at-row.ensures in
    let is = ap (λ (r : Row). selects q r.key) found ∙ sym c.in_ok-is_selected.ensures ∙ c.if-not-branch.false in
    record {
      count = ap (λ n. n + 1) c.loop-i.invariant.count ∙ sym (count_by_more_yes (λ (r : Row). selects q r.key) rows c.loop-i.i no_row less is);
      few = omega (arith, c.loop-i.invariant.few);
    }

pub returns : goal.returns
returns c =
    let q = asked c.args.query.now in
    let rows = c.args.rows.now in
    let all = take_all c.loop-i.i rows (subst (λ n. n ≤ c.loop-i.i) c.len-i-end.ensures c.loop-i-test.false) in
    c.loop-i.invariant.count ∙ ap (count_by (λ (r : Row). selects q r.key)) all ∙ sym (length-filter (λ (r : Row). selects q r.key) rows)
