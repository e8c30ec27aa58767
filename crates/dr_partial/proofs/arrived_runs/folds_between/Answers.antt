use Rattle.std.proofs.Common.{◌∙◌, ap, sym, ◌++◌, ◌∷◌, [], slice_range, rules, FitsSigned, w64}
use Rattle.std.proofs.lemmas.Int.{to_z-of_z}
use Rattle.std.proofs.lemmas.List.{map_more}
use Rattle.dr_ask.specs.declared.aggregation.Aggregation.{Aggregation}
use Rattle.dr_answers.specs.Fold.{folded}
use Rattle.dr_partial.proofs.arrived_runs.folds_between.Goals as goal

pub loop-aggregation-preserved : goal.loop-aggregation-preserved
loop-aggregation-preserved c =
    let all = c.args.aggregations.now in
    let i = c.loop-aggregation.aggregation-index in
    let a = c.aggregation-item.result in
    let run = slice_range c.args.rows.now c.args.from c.args.to in
    let fits : FitsSigned w64 c.fold_between.result = search rules in
    c.in_ok-push.ensures.items
    ∙ (λ j. c.loop-aggregation.invariant j ++ (to_z-of_z w64 c.fold_between.result fits ∙ c.fold_between.ensures ∙ ap (λ (x : Aggregation). folded x run) c.aggregation-item.is) j ∷ [])
    ∙ sym (map_more (λ (x : Aggregation). folded x run) all i a c.loop-aggregation-test.true)
