-- Which rows a filter keeps, by its cases (Apache Druid documentation, query filters).
use Rattle.std.specs.Prelude.{ℕ, Bool, List, [], Option, Some, None, bytes_eq, slice_get, unwrap_or}
use Rattle.std.specs.List.{list_any}
use Rattle.std.specs.Str.{chars}
use Rattle.dr_predicate.specs.declared.value_test.ValueTest.{ValueTest}
use Rattle.dr_predicate.specs.declared.value_test.ValueTest.TheVariants.{Equals, Among, Within, WithinOne, Like, LikeOne}
use Rattle.dr_predicate.specs.declared.dimension_test.DimensionTest.{DimensionTest}
use Rattle.dr_like.specs.Like.{fits}
use Rattle.dr_patterns.specs.Fitting.{fits_some}
pub use Rattle.dr_predicate.specs.Within.{comes_after, not_before, not_after, lies_within, some_within}

-- ---- the value of a dimension

-- selector, in, bound, like
abbrev pub passes : ValueTest → List ℕ → Bool
passes (Equals text) value = bytes_eq value text
passes (Among texts) value = list_any (bytes_eq value) texts
passes (Within bounds) value = lies_within bounds value
passes (WithinOne ranges) value = some_within ranges value
passes (Like pattern) value = fits (chars pattern) (chars value)
passes (LikeOne patterns) value = fits_some patterns value

-- the value of a dimension; of a column that isn't there it is the empty text
abbrev pub value_at : Option ℕ → List (List ℕ) → List ℕ
value_at None dims = []
value_at (Some place) dims = unwrap_or (slice_get dims place) []

abbrev pub holds_of : DimensionTest → List (List ℕ) → Bool
holds_of t dims = passes t.test (value_at t.place dims)
