use Rattle.std.proofs.Common.{◌∙◌, ◌+◌, ◌<◌, ◌≤◌, ap, sym, subst, ℕ, List, ◌++◌, true, false, drop, arith}
use Rattle.std.proofs.lemmas.List.{drop_all}
use Rattle.std.proofs.lemmas.Result.{on_ok_weaker}
use Rattle.dr_answers.specs.Selection.{selected}
use Rattle.dr_ask.specs.Asked.{asked}
use Rattle.dr_base.specs.declared.row.Row.{Row}
use Rattle.dr_scan.specs.Window.{given}
use Rattle.dr_scan.specs.Written.{row_tokens, segment_tokens}
use Rattle.dr_scan.proofs.RowsInTurn.{after-next, after-skip, few-counted, given-next, given-skip, row-written, row_in-found}
use Rattle.dr_scan.proofs.Windows.{given-none}
use Rattle.dr_scan.proofs.segment_writing.write_given.Goals as goal

pub selects-requires-clause-told : goal.selects-requires-clause-told
selects-requires-clause-told c = c.loop-i.invariant.told c.loop-i.i (subst (λ n. c.loop-i.i < n) c.len-i-end.ensures c.loop-i-test.true)

pub loop-i-preserved-then-not-branch : goal.loop-i-preserved-then-not-branch
loop-i-preserved-then-not-branch c =
    let q = asked c.args.query.now in
    let rows = c.args.rows.now in
    let less = subst (λ n. c.loop-i.i < n) c.len-i-end.ensures c.loop-i-test.true in
    let is = sym c.in_ok-selects.ensures ∙ c.if-not-branch.true in
    let left = λ (rs : List Row). c.loop-i.out.tokens ++ segment_tokens c.args.scan.now c.args.columns.now c.args.identifier.now c.loop-i.count rs in
    record {
      before = c.loop-i.invariant.before;
      tokens = ap left (sym (given-skip q rows c.loop-i.i less c.loop-i.window is)) ∙ c.loop-i.invariant.tokens;
      window = sym (after-skip q rows c.loop-i.i less c.loop-i.window is) ∙ c.loop-i.invariant.window;
      few = omega (arith, c.loop-i.invariant.few);
      told = c.loop-i.invariant.told;
    }

pub loop-i-preserved-then-not-takes : goal.loop-i-preserved-then-not-takes
loop-i-preserved-then-not-takes c =
    let q = asked c.args.query.now in
    let rows = c.args.rows.now in
    let less = subst (λ n. c.loop-i.i < n) c.len-i-end.ensures c.loop-i-test.true in
    let is = sym c.in_ok-selects.ensures ∙ c.if-not-branch.false in
    let left = λ (rs : List Row). c.loop-i.out.tokens ++ segment_tokens c.args.scan.now c.args.columns.now c.args.identifier.now c.loop-i.count rs in
    record {
      before = c.loop-i.invariant.before;
      tokens = ap left (sym (given-next q rows c.loop-i.i less c.loop-i.window c.takes.new.self false is (sym c.takes.ensures.value ∙ c.if-not-takes.true) c.takes.ensures.moved)) ∙ c.loop-i.invariant.tokens;
      window = sym (after-next q rows c.loop-i.i less c.loop-i.window c.takes.new.self is c.takes.ensures.moved) ∙ c.loop-i.invariant.window;
      few = omega (arith, c.loop-i.invariant.few);
      told = c.loop-i.invariant.told;
    }

pub loop-i-preserved : goal.loop-i-preserved
loop-i-preserved c =
    let q = asked c.args.query.now in
    let rows = c.args.rows.now in
    let less = subst (λ n. c.loop-i.i < n) c.len-i-end.ensures c.loop-i-test.true in
    let found = row_in-found c.args.rows.now c.loop-i.i c.row-row.result c.row-row.ensures in
    let is = sym c.in_ok-selects.ensures ∙ c.if-not-branch.false in
    let left = λ (rs : List Row). c.loop-i.out.tokens ++ segment_tokens c.args.scan.now c.args.columns.now c.args.identifier.now c.loop-i.count rs in
    let whole = ap left (sym (given-next q rows c.loop-i.i less c.loop-i.window c.takes.new.self true is (sym c.takes.ensures.value ∙ c.if-not-takes.false) c.takes.ensures.moved)) ∙ c.loop-i.invariant.tokens in
    let written = c.in_ok-write_row.ensures.1 ∙ ap (λ (r : Row). c.write_before_row.new.out.tokens ++ row_tokens c.args.scan.now.result_format c.args.columns.now r) (sym found) in
    let counted = λ (n : ℕ). c.write_row.new.out.tokens ++ segment_tokens c.args.scan.now c.args.columns.now c.args.identifier.now n (given c.takes.new.self (selected q (drop (c.loop-i.i + 1) rows))) in
    record {
      before = c.in_ok-write_row.ensures.0 ∙ c.in_ok-write_before_row.ensures.0 ∙ c.loop-i.invariant.before;
      tokens = ap counted c.count_with-count.ensures ∙ row-written _ _ _ _ _ _ _ c.in_ok-write_before_row.ensures.1 written whole;
      window = sym (after-next q rows c.loop-i.i less c.loop-i.window c.takes.new.self is c.takes.ensures.moved) ∙ c.loop-i.invariant.window;
      few = subst (λ n. n ≤ c.loop-i.i + 1) (sym c.count_with-count.ensures) (few-counted c.args.scan.now.batch_size c.loop-i.count c.loop-i.i c.loop-i.invariant.few);
      told = c.loop-i.invariant.told;
    }

pub returns-clause-tokens : goal.returns-clause-tokens
returns-clause-tokens c =
    let q = asked c.args.query.now in
    let rows = c.args.rows.now in
    let none = drop_all c.loop-i.i rows (subst (λ n. n ≤ c.loop-i.i) c.len-i-end.ensures c.loop-i-test.false) in
    let left = λ (rs : List Row). c.loop-i.out.tokens ++ segment_tokens c.args.scan.now c.args.columns.now c.args.identifier.now c.loop-i.count rs in
    on_ok_weaker c.write_at_end.result
    (λ e. (
      e.0 ∙ c.loop-i.invariant.before,
      e.1 ∙ ap left (sym (ap (λ (rs : List Row). given c.loop-i.window (selected q rs)) none ∙ given-none c.loop-i.window)) ∙ c.loop-i.invariant.tokens,
    ))
    c.write_at_end.ensures
