use Rattle.std.proofs.Common.{◌∙◌, sym, ap, []}
use Rattle.dr_predicate.specs.Match.{passes, holds_of}
use Rattle.dr_columns.specs.Rows.{key_at, truth_in}
use Rattle.dr_columns.proofs.NarrowLemmas.{same-test}
use Rattle.dr_columns.proofs.ValueLemmas.{unknown, truth-known}
use Rattle.dr_columns.proofs.filtering.keep_passing.Goals as goal

pub returns-in_default : goal.returns-in_default
returns-in_default c =
    let t = c.args.view.now in
    let test = c.args.test.now in
    same-test (truth_in [] [] c.passes-empty.result) (λ i. holds_of test (key_at t i).dims) c.args.told.now c.keep_true.new.told
    (λ i lt. c.passes-empty.ensures ∙ ap (passes test.test) (sym (unknown t test.place i c.in_default.ensures))) c.keep_true.ensures

pub returns : goal.returns
returns c =
    let t = c.args.view.now in
    let test = c.args.test.now in
    same-test (truth_in c.numbers.result.now c.as_slice.result.now c.passes-empty.result) (λ i. holds_of test (key_at t i).dims) c.args.told.now c.keep_true-2.new.told
    (λ i lt. truth-known t test.place c.in-Some.d i test.test _ _ _ c.in-Some.ensures c.numbers.ensures (c.as_slice.ensures.value ∙ c.in_ok-truths.ensures) c.passes-empty.ensures) c.keep_true-2.ensures
