-- Which groups a `having` keeps, and what is asked of each in its place.
use Rattle.std.proofs.Common.{◌≡◌, ◌∙◌, sym, refl, ap, ℕ, ℤ, Bool, cond, List, [], ◌∷◌, filter, Some, None, Result, Ok, Err, IfOk}
use Rattle.dr_base.specs.declared.row.Row.{Row}
use Rattle.dr_ask.specs.declared.aggregation.Aggregation.{Aggregation}
use Rattle.dr_ask.specs.declared.dimension.Dimension.{Dimension}
use Rattle.dr_ask.specs.Firsts.{numbers_of, is_same_aggregation}
use Rattle.dr_answers.specs.Given.{is_kept}
use Rattle.dr_having.specs.declared.asked_having.AskedHaving.{AskedHaving}
use Rattle.dr_having.specs.Asked.{asked_meets}
use Rattle.dr_having.specs.Condition.{Condition, meets}
use Rattle.dr_outputs.specs.Numbered.{numbers_by}
use Rattle.dr_finish.specs.Meeting.{row_meets}
use Rattle.dr_finish.specs.RowOrder.{spread_row}

module _ (f g : Row → Bool) (same : (r : Row) → f r ≡ g r) where
  same-filter : (rows : List Row) → filter f rows ≡ filter g rows
  same-filter [] = refl
  same-filter (r ∷ rows) = ap (λ b. cond b (r ∷ filter f rows) (filter f rows)) (same r) ∙ ap (λ l. cond (g r) (r ∷ l) l) (same-filter rows)

-- without a condition all groups are kept
pub all-kept : (dimensions : List Dimension) (aggregations : List Aggregation) (rows : List Row) → rows ≡ filter (λ g. is_kept None (spread_row dimensions aggregations g)) rows
all-kept dimensions aggregations [] = refl
all-kept dimensions aggregations (r ∷ rows) = ap (λ l. r ∷ l) (all-kept dimensions aggregations rows)

pub asked-kept : (dimensions : List Dimension) (aggregations : List Aggregation) (asked : AskedHaving) (condition : Condition) (numbers : List ℕ) (rows : List Row) → numbers ≡ numbers_of is_same_aggregation aggregations
    → ((dims : List (List ℕ)) (values : List ℤ) → asked_meets dims (numbers_by numbers values) asked ≡ meets dims (numbers_by numbers values) condition)
    → filter (row_meets asked dimensions aggregations) rows ≡ filter (λ g. is_kept (Some condition) (spread_row dimensions aggregations g)) rows
asked-kept dimensions aggregations asked condition numbers rows is same =
    same-filter (row_meets asked dimensions aggregations) (λ g. is_kept (Some condition) (spread_row dimensions aggregations g)) at rows
  where
    at : (r : Row) → row_meets asked dimensions aggregations r ≡ is_kept (Some condition) (spread_row dimensions aggregations r)
    at r = let g = spread_row dimensions aggregations r in
        ap (λ ns. asked_meets g.dims (numbers_by ns r.metrics) asked) (sym is) ∙ same g.dims r.metrics ∙ ap (λ ns. meets g.dims (numbers_by ns r.metrics) condition) is

-- what holds of the groups that were kept, where they are told by another condition
pub kept-same : {V E : Type 0} (items : V → List Row) (r : Result V E) (xs ys : List Row) → xs ≡ ys → IfOk r (λ v. items v ≡ xs) → IfOk r (λ v. items v ≡ ys)
kept-same items (Ok v) xs ys same is = is ∙ same
kept-same items (Err e) xs ys same is = tt
