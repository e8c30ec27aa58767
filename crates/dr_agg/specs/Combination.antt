-- How values are combined, and columns of values (Apache Druid documentation, aggregations; two's complement).
use Rattle.std.specs.Prelude.{◌≡◌, ℕ, ℤ, pos, negsuc, ◌+ℤ◌, Bool, true, false, List, [], ◌∷◌, drop, length, slice_index_or}
use Rattle.std.specs.Int.{int_min, int_max, int_wrap, w64}
use Rattle.std.specs.List.{fold}
use Rattle.dr_agg.specs.declared.kind.Kind.{Kind}
use Rattle.dr_agg.specs.declared.kind.Kind.TheVariants.{Count, LongSum, LongMin, LongMax}

-- the sum modulo 2^64, read as a number with a sign
abbrev pub wrapping_sum : ℤ → ℤ → ℤ
wrapping_sum a b = int_wrap w64 (a +ℤ b)

-- 2^63 - 1 and -2^63, the ends of 64 bits with a sign
abbrev pub greatest : ℤ
greatest = pos 9223372036854775807

abbrev pub least : ℤ
least = negsuc 9223372036854775807

-- two values of a column of that kind, combined
abbrev pub combine_of : Kind → ℤ → ℤ → ℤ
combine_of Count = wrapping_sum
combine_of LongSum = wrapping_sum
combine_of LongMin = int_min
combine_of LongMax = int_max

-- what no value at all combines to
abbrev pub unit_of : Kind → ℤ
unit_of Count = pos 0
unit_of LongSum = pos 0
unit_of LongMin = greatest
unit_of LongMax = least

-- values combined one by one, from the unit on
abbrev pub fold_of : Kind → List ℤ → ℤ
fold_of kind values = fold (combine_of kind) (unit_of kind) values

-- whether an aggregation of a query computes, over the combined values of a column, what it computes over the values themselves
abbrev pub matches_column : Kind → Kind → Bool
matches_column LongSum LongSum = true
matches_column LongSum Count = true
matches_column LongMin LongMin = true
matches_column LongMax LongMax = true
matches_column query column = false

-- the value of a column; one that isn't there reads 0
abbrev pub column : ℕ → List ℤ → ℤ
column place values = slice_index_or values place (pos 0)

-- column by column, one for each kind
abbrev pub combine_columns : List Kind → List ℤ → List ℤ → List ℤ
combine_columns [] xs ys = []
combine_columns (kind ∷ kinds) xs ys = combine_of kind (column 0 xs) (column 0 ys) ∷ combine_columns kinds (drop 1 xs) (drop 1 ys)

-- as many values as there are columns
abbrev pub FitsColumns : List Kind → List ℤ → Type 0
FitsColumns kinds values = length values ≡ length kinds
