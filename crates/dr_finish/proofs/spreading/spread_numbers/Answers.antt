use Rattle.std.proofs.Common.{rules, ◌∙◌, sym, ap, ◌++◌, ◌∷◌, [], FitsSigned, w64}
use Rattle.std.proofs.lemmas.Int.{to_z-of_z}
use Rattle.dr_outputs.specs.Numbered.{numbers_by}
use Rattle.dr_finish.specs.RowOrder.{numbers_from}
use Rattle.dr_finish.proofs.Numbered.{numbers-all, numbers-taken}
use Rattle.dr_finish.proofs.spreading.spread_numbers.Goals as goal

pub returns-then-are_all : goal.returns-then-are_all
returns-then-are_all c =
    sym (ap (λ ns. numbers_by ns c.args.values) (c.are_all.ensures c.if-are_all.true) ∙ ap (λ n. numbers_by (numbers_from n 0) c.args.values) c.len.ensures ∙ numbers-all c.args.values)

pub loop-number-preserved : goal.loop-number-preserved
loop-number-preserved c =
    let fits : FitsSigned w64 c.number_at.result = search rules in
    let value = to_z-of_z w64 c.number_at.result fits ∙ c.number_at.ensures in
    c.in_ok-push.ensures.items
    ∙ (λ i. c.loop-number.invariant i ++ value i ∷ [])
    ∙ sym (numbers-taken c.as_slice-all.result.now c.args.numbers.now c.loop-number.number-index c.loop-number-test.true)
