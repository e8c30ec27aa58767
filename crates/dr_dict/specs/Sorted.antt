-- The texts of a dictionary in the order of their bytes (Apache Druid documentation, segments: a dictionary is sorted).
use Rattle.std.specs.Prelude.{◌≡◌, ℕ, List, Some, slice_get}
use Rattle.std.specs.List.{AllZip, IsDistinct}
use Rattle.std.specs.Prelude.{bytes_eq}
use Rattle.std.specs.List.Sorted.{IsPermutation, IsSorted}
use Rattle.std.specs.Ordering.{nat_cmp}
use Rattle.std.specs.Cmp.Lexicographic.{slice_cmp}

-- the same texts, in the order of their bytes
pub record IsSortedOf (texts sorted : List (List ℕ)) : Type 0 where
  pub moved : IsPermutation texts sorted
  pub rising : IsSorted (slice_cmp nat_cmp) sorted

-- for each text its place in the sorted list
abbrev pub IsRenumbering : (texts sorted : List (List ℕ)) → List ℕ → Type 0
IsRenumbering texts sorted places = AllZip (λ text place. slice_get sorted place ≡ Some text) texts places

-- distinct texts are sorted in one way
abbrev pub SortedIsUnique : Type 0
SortedIsUnique = (texts sorted others : List (List ℕ)) → IsDistinct bytes_eq texts → IsSortedOf texts sorted → IsSortedOf texts others → sorted ≡ others
