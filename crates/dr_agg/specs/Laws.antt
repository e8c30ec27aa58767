-- The laws of rollup: what it is, that it may be done piece by piece, and what it keeps.
use Rattle.std.specs.Prelude.{◌≡◌, ℕ, ℤ, pos, Bool, true, false, List, ◌∷◌, [], ◌++◌, Some, map, slice_get}
use Rattle.std.specs.List.{list_any}
use Rattle.std.specs.List.Sorted.{IsPermutation}
use Rattle.dr_base.specs.declared.key.Key.{Key}
use Rattle.dr_base.specs.declared.row.Row.{Row}
use Rattle.dr_agg.specs.declared.kind.Kind.{Kind}
use Rattle.dr_agg.specs.Combination.{combine_of, combine_columns, matches_column, column, FitsColumns}
use Rattle.dr_agg.specs.Rollup.{IsRising, IsRollup, AllFit, add_row, rollup, join, all_rows, fold_rows}

-- the function gives a list in the relation
abbrev pub RollupIsRollup : Type 0
RollupIsRollup = (combines : Bool) (kinds : List Kind) (es : List Row) → IsRollup combines kinds es (rollup combines kinds es)

-- there is one list in the relation
abbrev pub RollupIsUnique : Type 0
RollupIsUnique = (combines : Bool) (kinds : List Kind) (es rows others : List Row) → IsRollup combines kinds es rows → IsRollup combines kinds es others → rows ≡ others

-- where rows are combined, no key stands twice
abbrev pub RollupIsRising : Type 0
RollupIsRising = (kinds : List Kind) (es : List Row) → IsRising (rollup true kinds es)

-- the rollup of two pieces is the join of their rollups
abbrev pub RollupOfTwoPieces : Type 0
RollupOfTwoPieces = (combines : Bool) (kinds : List Kind) (a b : List Row) → rollup combines kinds (a ++ b) ≡ join combines kinds (rollup combines kinds a ∷ rollup combines kinds b ∷ [])

-- and so for any number of pieces
abbrev pub RollupOfPieces : Type 0
RollupOfPieces = (combines : Bool) (kinds : List Kind) (pieces : List (List Row)) → rollup combines kinds (all_rows pieces) ≡ join combines kinds (map (rollup combines kinds) pieces)

-- with one entry more, a row is added
abbrev pub RollupOfOneMore : Type 0
RollupOfOneMore = (combines : Bool) (kinds : List Kind) (es : List Row) (e : Row) → rollup combines kinds (es ++ e ∷ []) ≡ add_row combines kinds (rollup combines kinds es) e

-- where rows are combined, the order of the entries doesn't matter
abbrev pub RollupOfRearranged : Type 0
RollupOfRearranged = (kinds : List Kind) (es others : List Row) → IsPermutation es others → rollup true kinds es ≡ rollup true kinds others

-- a test of keys is passed by a row where it is passed by an entry
abbrev pub KeysOfRollup : Type 0
KeysOfRollup = (combines : Bool) (kinds : List Kind) (test : Key → Bool) (es : List Row) → list_any (λ r. test r.key) (rollup combines kinds es) ≡ list_any (λ r. test r.key) es

-- rows with a value for each column stay such
abbrev pub RollupFits : Type 0
RollupFits = (combines : Bool) (kinds : List Kind) (es : List Row) → AllFit kinds es → AllFit kinds (rollup combines kinds es)

abbrev pub AddedRowFits : Type 0
AddedRowFits = (combines : Bool) (kinds : List Kind) (rows : List Row) (r : Row) → AllFit kinds rows → FitsColumns kinds r.metrics → AllFit kinds (add_row combines kinds rows r)

-- what a reading of the metrics folds to is kept, for the rows whose keys pass a test, where the reading of two rows that
-- were combined is the combination of their readings
abbrev pub FoldOfRollup : Type 0
FoldOfRollup = (combines : Bool) (kinds : List Kind) (query : Kind) (reading : List ℤ → ℤ) (test : Key → Bool)
    → ((xs ys : List ℤ) → reading (combine_columns kinds xs ys) ≡ combine_of query (reading xs) (reading ys))
    → (es : List Row) → fold_rows query (λ r. reading r.metrics) (λ r. test r.key) (rollup combines kinds es) ≡ fold_rows query (λ r. reading r.metrics) (λ r. test r.key) es

-- so it is for a column that the query's kind matches
abbrev pub ColumnOfRollup : Type 0
ColumnOfRollup = (combines : Bool) (kinds : List Kind) (query kind : Kind) (place : ℕ) (test : Key → Bool) → slice_get kinds place ≡ Some kind → matches_column query kind ≡ true
    → (es : List Row) → fold_rows query (λ r. column place r.metrics) (λ r. test r.key) (rollup combines kinds es) ≡ fold_rows query (λ r. column place r.metrics) (λ r. test r.key) es

-- and for a column that isn't there, which reads 0
abbrev pub AbsentColumnOfRollup : Type 0
AbsentColumnOfRollup = (combines : Bool) (kinds : List Kind) (query : Kind) (test : Key → Bool)
    → (es : List Row) → fold_rows query (λ r. pos 0) (λ r. test r.key) (rollup combines kinds es) ≡ fold_rows query (λ r. pos 0) (λ r. test r.key) es

-- where rows stay apart, every fold is kept, of any value and any test
abbrev pub FoldOfRowsApart : Type 0
FoldOfRowsApart = (kinds : List Kind) (query : Kind) (value : Row → ℤ) (test : Row → Bool) (es : List Row) → fold_rows query value test (rollup false kinds es) ≡ fold_rows query value test es

-- a fold doesn't depend on the order of the rows
abbrev pub FoldOfRearranged : Type 0
FoldOfRearranged = (query : Kind) (value : Row → ℤ) (test : Row → Bool) (es others : List Row) → IsPermutation es others → fold_rows query value test es ≡ fold_rows query value test others
