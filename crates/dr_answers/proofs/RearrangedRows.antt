-- Rearranged rows are alike for every query.
use Rattle.std.proofs.Common.{◌≡◌, refl, Bool, List, [], ◌∷◌}
use Rattle.std.specs.List.Sorted.{IsPermutation}
use Rattle.std.proofs.lemmas.List.Sorted.{list_any-IsPermutation}
use Rattle.dr_base.specs.declared.key.Key.{Key}
use Rattle.dr_base.specs.declared.row.Row.{Row}
use Rattle.dr_agg.proofs.Rearranged.{fold_rows-IsPermutation}
use Rattle.dr_ask.specs.declared.aggregation.Aggregation.{Aggregation}
use Rattle.dr_ask.specs.Asked.{Asked}
use Rattle.dr_answers.specs.Fold.{reading_in, folds}
use Rattle.dr_answers.specs.Laws.{Alike}
use Rattle.std.specs.Prelude.{filter}

folds-IsPermutation : (aggregations : List Aggregation) (test : Key → Bool) (a b : List Row) → IsPermutation a b → folds aggregations (filter (λ r. test r.key) a) ≡ folds aggregations (filter (λ r. test r.key) b)
folds-IsPermutation [] test a b moved = refl
folds-IsPermutation (g ∷ more) test a b moved =
    λ i. fold_rows-IsPermutation g.kind (reading_in g.kind g.column) (λ r. test r.key) a b moved i ∷ folds-IsPermutation more test a b moved i

pub Alike-IsPermutation : (q : Asked) (a b : List Row) → IsPermutation a b → Alike q a b
Alike-IsPermutation q a b moved = record {
  keys = λ test. list_any-IsPermutation (λ r. test r.key) a b moved;
  values = λ test. folds-IsPermutation q.aggregations test a b moved;
}
