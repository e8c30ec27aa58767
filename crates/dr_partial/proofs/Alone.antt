-- What aggregations fold to over a row alone, one by one.
use Rattle.std.proofs.Common.{◌≡◌, ◌∙◌, sym, ap, ℕ, zero, suc, ◌+◌, ◌<◌, ℤ, pos, List, [], ◌∷◌, length, drop, get_or, arith}
use Rattle.std.proofs.lemmas.List.{drop_more, length-map}
use Rattle.dr_agg.specs.declared.kind.Kind.{Kind}
use Rattle.dr_ask.specs.declared.aggregation.Aggregation.{Aggregation}
use Rattle.dr_answers.specs.Fold.{folded}
use Rattle.dr_agg.specs.Combination.{FitsColumns}
use Rattle.dr_partial.specs.Grouped.{bare, folds_alone}
use Rattle.dr_partial.specs.Partial.{kinds_in}

pub folds-more : (aggregations : List Aggregation) (metrics : List ℤ) (i : ℕ) (a : Aggregation) → i < length aggregations → a ≡ get_or aggregations i a
    → folds_alone (drop i aggregations) metrics ≡ folded a (bare metrics ∷ []) ∷ folds_alone (drop (i + 1) aggregations) metrics
folds-more aggregations metrics i a lt is =
    ap (λ l. folds_alone l metrics) (drop_more aggregations i a lt) ∙ ap (λ (x : Aggregation). folded x (bare metrics ∷ []) ∷ folds_alone (drop (i + 1) aggregations) metrics) (sym is)

pub fold-at : (aggregations : List Aggregation) (metrics : List ℤ) (i : ℕ) (a : Aggregation) → i < length aggregations → a ≡ get_or aggregations i a
    → get_or (folds_alone aggregations metrics) i (pos 0) ≡ folded a (bare metrics ∷ [])
fold-at [] metrics i a lt is = absurd (omega (arith, lt))
fold-at (x ∷ more) metrics zero a lt is = ap (λ (y : Aggregation). folded y (bare metrics ∷ [])) (sym is)
fold-at (x ∷ more) metrics (suc i) a lt is = fold-at more metrics i a (omega (arith, lt)) is

pub kind-at : (aggregations : List Aggregation) (i : ℕ) (d : Kind) (a : Aggregation) → i < length aggregations → a ≡ get_or aggregations i a → get_or (kinds_in aggregations) i d ≡ a.kind
kind-at [] i d a lt is = absurd (omega (arith, lt))
kind-at (x ∷ more) zero d a lt is = ap (λ (y : Aggregation). y.kind) (sym is)
kind-at (x ∷ more) (suc i) d a lt is = kind-at more i d a (omega (arith, lt)) is

pub fits-alone : (aggregations : List Aggregation) (metrics : List ℤ) → FitsColumns (kinds_in aggregations) (folds_alone aggregations metrics)
fits-alone aggregations metrics = length-map aggregations (λ a. folded a (bare metrics ∷ [])) ∙ sym (length-map aggregations (λ a. a.kind))
