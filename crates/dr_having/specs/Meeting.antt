-- Which groups meet a condition on one of their values (Apache Druid documentation, groupBy queries: having).
use Rattle.std.specs.Prelude.{ℕ, ℤ, Bool, List, bytes_eq, int_lt}
use Rattle.std.specs.Ordering.{int_eq}
use Rattle.dr_outputs.specs.Numbered.{number_at, text_at}
use Rattle.dr_having.specs.declared.comparison.Comparison.{Comparison}
use Rattle.dr_having.specs.declared.comparison.Comparison.TheVariants.{Equal, Greater, Less}
use Rattle.dr_having.specs.declared.group_value.GroupValue.{GroupValue}
use Rattle.dr_having.specs.declared.dimension_value.DimensionValue.{DimensionValue}

-- equalTo, greaterThan, lessThan
abbrev pub compares : Comparison → ℤ → ℤ → Bool
compares Equal value other = int_eq value other
compares Greater value other = int_lt other value
compares Less value other = int_lt value other

abbrev pub meets_value : GroupValue → List ℤ → Bool
meets_value c values = compares c.comparison (number_at c.place values) c.value

-- dimSelector
abbrev pub meets_dimension : DimensionValue → List (List ℕ) → Bool
meets_dimension c dims = bytes_eq (text_at c.place dims) c.value
