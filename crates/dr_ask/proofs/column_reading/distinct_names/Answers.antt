use Rattle.std.proofs.Common.{◌∙◌, ap, sym, subst, List, [], ◌∷◌, ◌++◌, ℕ}
use Rattle.std.proofs.lemmas.Result.{err_from_is_err_and}
use Rattle.serde_json.specs.View.{view, items_view}
use Rattle.dr_base.specs.Reading.{FailsUnless}
use Rattle.dr_ask.specs.ColumnsOf.{name_of, names_from}
use Rattle.dr_ask.specs.Refusal.{is_memory}
use Rattle.dr_ask.proofs.NamesInTurn.{names_from-goes_on, names_from-stops, names_from-ends}
use Rattle.dr_ask.proofs.column_reading.distinct_names.Goals as goal

pub returns-in_err-new_name : goal.returns-in_err-new_name
returns-in_err-new_name c =
    let p = err_from_is_err_and c.from_residual.result c.from_residual.ensures.1 in
    let refused = subst (λ (seen : List (List ℕ)). FailsUnless is_memory c.in_err-new_name.field-0.0 (name_of seen (view c.value-item.result))) c.loop-value.invariant.same c.in_err-new_name.ensures.value in
    rw (p.1, p.2) (names_from-stops c.loop-value.names c.args.values.now c.loop-value.value-index c.value-item.result (names_from [] (items_view c.args.values.now)) c.loop-value-test.true c.value-item.is c.loop-value.invariant.left c.in_err-new_name.field-0.0 refused)

pub loop-value-preserved : goal.loop-value-preserved
loop-value-preserved c =
    let name = c.in_ok-new_name.field-0 in
    let read = ap (λ (seen : List (List ℕ)). name_of seen (view c.value-item.result)) (sym c.loop-value.invariant.same) ∙ c.in_ok-new_name.ensures.value in
    rw c.in_ok-push.ensures.ok (record {
      same = c.in_ok-new_name.ensures.seen ∙ ap (λ (seen : List (List ℕ)). seen ++ name ∷ []) c.loop-value.invariant.same;
      left = names_from-goes_on c.loop-value.names c.args.values.now c.loop-value.value-index c.value-item.result (names_from [] (items_view c.args.values.now)) c.loop-value-test.true c.value-item.is c.loop-value.invariant.left name read;
    })

pub returns : goal.returns
returns c =
    names_from-ends c.loop-value.names c.args.values.now c.loop-value.value-index (names_from [] (items_view c.args.values.now)) c.loop-value-test.false c.loop-value.invariant.left
