-- What an aggregation folds to goes behind what those before it fold to.
use Rattle.std.proofs.Common.{◌∙◌, sym, ap, ℤ, List, ◌+◌, ◌∷◌, ◌++◌, [], drop, append_assoc, rules, FitsSigned, w64}
use Rattle.std.proofs.lemmas.Int.{to_z-of_z}
use Rattle.dr_answers.specs.Fold.{folded}
use Rattle.dr_partial.specs.Grouped.{bare, folds_alone}
use Rattle.dr_partial.proofs.Alone.{folds-more}
use Rattle.dr_partial.proofs.reading.readings.Goals as goal

pub loop-aggregation-preserved : goal.loop-aggregation-preserved
loop-aggregation-preserved c =
    let i = c.loop-aggregation.aggregation-index in
    let all = c.args.aggregations.now in
    let m : List ℤ = c.args.metrics.now in
    let fits : FitsSigned w64 c.reading.result = search rules in
    let added = c.reading.ensures in
    let more = folds-more all m i c.aggregation-item.result c.loop-aggregation-test.true c.aggregation-item.is in
    let rest : List ℤ = folds_alone (drop (i + 1) all) m in
    ap (λ l. l ++ rest) (c.in_ok-push.ensures.items ∙ ap (λ v. c.loop-aggregation.values.items ++ v ∷ []) (to_z-of_z w64 c.reading.result fits ∙ added))
    ∙ append_assoc c.loop-aggregation.values.items (folded c.aggregation-item.result (bare m ∷ []) ∷ []) rest
    ∙ ap (λ l. c.loop-aggregation.values.items ++ l) (sym more)
    ∙ c.loop-aggregation.invariant
