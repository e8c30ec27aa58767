-- Rows that stand in the order of what each has.
use Rattle.std.specs.Prelude.{◌≡◌, ℕ, ◌<◌, ◌≤◌, ◌+◌, ◌*◌, ◌||◌, ◌&&◌, ◌==◌, Bool, true, false, Option, Some, None, List, [], length, get_or, slice_range, ℤ, pos, ◌≤ℤ◌, int_le, int_lt}
use Rattle.std.specs.List.{list_any, range_with_len}
use Rattle.std.specs.List.Sorted.{IsPermutation}
use Rattle.std.specs.Ordering.{nat_cmp, is_lt}
use Rattle.std.specs.Cmp.Lexicographic.{slice_cmp}
use Rattle.dr_rowindex.specs.declared.row_set.RowSet.{RowSet}

-- it is told of each row whether its value passes a test
pub record Tell {V : Type 0} (test : V → Bool) (values : List V) (told : List Bool) : Type 0 where
  pub count : length told ≡ length values
  pub each : (i : ℕ) (v : V) → i < length values → get_or told i false ≡ test (get_or values i v)

-- rows of which each has a value are added to those that are told of, where the value passes a test
pub record Adds {V : Type 0} (test : V → Bool) (values : List V) (before after : List Bool) : Type 0 where
  pub count : length after ≡ length before
  pub each : (i : ℕ) (v : V) → i < length values → get_or after i false ≡ (get_or before i false || test (get_or values i v))

-- a number isn't before the first that is asked for, or before the end; what is absent bounds nothing
abbrev pub reached : Option ℤ → ℤ → Bool
reached None n = true
reached (Some from) n = int_le from n

abbrev pub unended : Option ℤ → ℤ → Bool
unended None n = true
unended (Some to) n = int_lt n to

abbrev pub lies_between : Option ℤ → Option ℤ → ℤ → Bool
lies_between from to n = reached from n && unended to n

-- rows were put into a set
pub record Put (rows : List ℕ) (before after : List Bool) : Type 0 where
  pub count : length after ≡ length before
  pub each : (i : ℕ) → get_or after i false ≡ (get_or before i false || list_any (λ r. r == i) rows)

-- all rows stand in some order, each once
abbrev pub AreAll : List ℕ → Type 0
AreAll rows = IsPermutation (range_with_len 0 (length rows)) rows

-- it is told of each row whether it is one of the 1024 that stand from a place on
pub record IsBlock (rows : List ℕ) (from : ℕ) (told : List Bool) : Type 0 where
  pub long : length told ≡ length rows
  pub each : (i : ℕ) → get_or told i false ≡ list_any (λ r. r == i) (slice_range rows from (from + 1024))

-- and so of each full block of 1024 rows
abbrev pub AreBlocks : List ℕ → List RowSet → Type 0
AreBlocks rows blocks = (b : ℕ) (told : List Bool) → b < length blocks → IsBlock rows (b * 1024) (get_or blocks b told)

-- rows stand in the order of their numbers
abbrev pub NumbersRise : List ℤ → List ℕ → Type 0
NumbersRise numbers rows = (i j r : ℕ) → i ≤ j → j < length rows → get_or numbers (get_or rows i r) (pos 0) ≤ℤ get_or numbers (get_or rows j r) (pos 0)

-- rows stand in the order of their texts, which are ordered by their bytes
abbrev pub TextsRise : List (List ℕ) → List ℕ → Type 0
TextsRise texts rows =
    (i j r : ℕ) → i ≤ j → j < length rows → is_lt (slice_cmp nat_cmp (get_or texts (get_or rows j r) []) (get_or texts (get_or rows i r) [])) ≡ false
