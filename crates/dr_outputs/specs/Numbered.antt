-- The values of a group, one for each output of a query, from those that differ: each output has the number of its value among these.
use Rattle.std.specs.Prelude.{ℕ, ℤ, pos, List, [], map, slice_get, unwrap_or}

-- the value of an aggregation, 0 where there is none
abbrev pub number_at : ℕ → List ℤ → ℤ
number_at place values = unwrap_or (slice_get values place) (pos 0)

-- the value of a dimension, the empty text where there is none
abbrev pub text_at : ℕ → List (List ℕ) → List ℕ
text_at place dims = unwrap_or (slice_get dims place) []

-- the values of dimensions
abbrev pub texts_by : List ℕ → List (List ℕ) → List (List ℕ)
texts_by numbers texts = map (λ n. text_at n texts) numbers

-- the values of aggregations
abbrev pub numbers_by : List ℕ → List ℤ → List ℤ
numbers_by numbers values = map (λ n. number_at n values) numbers
