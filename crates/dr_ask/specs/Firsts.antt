-- Of the dimensions or the aggregations of a query those that differ, whatever their outputs are named.
use Rattle.std.specs.Prelude.{ℕ, zero, suc, ◌==◌, Bool, true, false, ◌&&◌, List, [], ◌∷◌, ◌++◌, Option, Some, None, map, if◌then◌else◌}
use Rattle.std.specs.List.{list_any, fold}
use Rattle.dr_agg.specs.declared.kind.Kind.{Kind}
use Rattle.dr_agg.specs.declared.kind.Kind.TheVariants.{Count, LongSum, LongMin, LongMax}
use Rattle.dr_ask.specs.declared.aggregation.Aggregation.{Aggregation}
use Rattle.dr_ask.specs.declared.column.Column.{Column}
use Rattle.dr_ask.specs.declared.dimension.Dimension.{Dimension}

-- ---- of some things those that differ

-- the number of the first that is the same, from 0; that behind the last where none is
abbrev pub number_in : {A : Type 0} → (A → A → Bool) → List A → A → ℕ
number_in same [] x = zero
number_in same (y ∷ ys) x = if same x y then zero else suc (number_in same ys x)

-- one more behind some, where none of them is the same
abbrev pub with_new : {A : Type 0} → (A → A → Bool) → List A → A → List A
with_new same found x = if list_any (same x) found then found else found ++ x ∷ []

-- of each that are the same the first
abbrev pub firsts : {A : Type 0} → (A → A → Bool) → List A → List A
firsts same xs = fold (with_new same) [] xs

-- of each the number of the one that is the same among those that differ
abbrev pub numbers_of : {A : Type 0} → (A → A → Bool) → List A → List ℕ
numbers_of same xs = map (number_in same (firsts same xs)) xs

-- ---- which dimensions and which aggregations are the same, whatever their names are

-- the same place, or none
abbrev pub is_same_place : Option ℕ → Option ℕ → Bool
is_same_place None None = true
is_same_place None (Some j) = false
is_same_place (Some i) None = false
is_same_place (Some i) (Some j) = i == j

abbrev pub is_same_dimension : Dimension → Dimension → Bool
is_same_dimension d e = is_same_place d.place e.place

abbrev pub kind_number : Kind → ℕ
kind_number Count = 0
kind_number LongSum = 1
kind_number LongMin = 2
kind_number LongMax = 3

abbrev pub is_same_kind : Kind → Kind → Bool
is_same_kind k l = kind_number k == kind_number l

abbrev pub is_same_column : Option Column → Option Column → Bool
is_same_column None None = true
is_same_column None (Some d) = false
is_same_column (Some c) None = false
is_same_column (Some c) (Some d) = c.place == d.place && is_same_kind c.kind d.kind

abbrev pub is_same_aggregation : Aggregation → Aggregation → Bool
is_same_aggregation a b = is_same_kind a.kind b.kind && is_same_column a.column b.column
