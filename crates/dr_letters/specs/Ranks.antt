-- Codes with ranks. No public contract cites this file.
use Rattle.std.specs.Prelude.{◌≡◌, ℕ, ◌<◌, ◌/◌, ◌%◌, ◌==◌, ◌&&◌, Bool, false, List, length, get_or, Option, None, Some}
use Rattle.std.specs.List.{All, list_any}
use Rattle.std.specs.Ordering.{nat_cmp}
use Rattle.std.specs.BTreeMap.{BTreeMap, get_by}
use Rattle.dr_rowindex.specs.declared.row_set.RowSet.{RowSet}
use Rattle.dr_letters.specs.declared.text_letter.TextLetter.{TextLetter}

abbrev pub rank_of : BTreeMap ℕ ℕ → ℕ → Option ℕ
rank_of ranks code = get_by (nat_cmp code) ranks

-- each code with a rank stands there among the codes
abbrev pub AreRanked : BTreeMap ℕ ℕ → List ℕ → Type 0
AreRanked ranks codes = (n r : ℕ) → rank_of ranks n ≡ Some r → (r < length codes) × (get_or codes r 0 ≡ n)

-- the codes of some letters have these ranks
pub record AreRanksOf (ranks : BTreeMap ℕ ℕ) (letters : List TextLetter) (own : List ℕ) : Type 0 where
  pub count : length own ≡ length letters
  pub each : (k r : ℕ) (l : TextLetter) → k < length letters → rank_of ranks (get_or letters k l).code ≡ Some (get_or own k r)

-- a digit of a rank
abbrev pub digit : (divisor base rank : ℕ) → ℕ
digit divisor base rank = rank / divisor % base

abbrev pub rank_passes : (ℕ → Bool) → Option ℕ → Bool
rank_passes test None = false
rank_passes test (Some r) = test r

-- a code has a rank with a digit
abbrev pub has_digit : BTreeMap ℕ ℕ → (divisor base d : ℕ) → ℕ → Bool
has_digit ranks divisor base d n = rank_passes (λ r. digit divisor base r == d) (rank_of ranks n)

-- no two codes have the same rank, and each is less than the greatest number of 64 bits
pub record AreApart (ranks : BTreeMap ℕ ℕ) : Type 0 where
  pub small : (n r : ℕ) → rank_of ranks n ≡ Some r → r < 18446744073709551615
  pub apart : (n m r : ℕ) → rank_of ranks n ≡ Some r → rank_of ranks m ≡ Some r → n ≡ m

-- there is a set of as many rows for each digit of a rank
pub record HasSets (count : ℕ) (ranks : BTreeMap ℕ ℕ) (divisor base : ℕ) (sets : List RowSet) : Type 0 where
  pub rows : All (λ s. length s ≡ count) sets
  pub within : (n r : ℕ) → rank_of ranks n ≡ Some r → digit divisor base r < length sets

-- of each digit at a place of the ranks it was told which of so many rows have a letter whose code has it
abbrev pub HoldDigits : (count : ℕ) → List TextLetter → BTreeMap ℕ ℕ → (divisor base : ℕ) → List RowSet → Type 0
HoldDigits count letters ranks divisor base sets =
    (d i : ℕ) (told : List Bool) → d < length sets → i < count → get_or (get_or sets d told) i false ≡ list_any (λ (l : TextLetter). (l.row == i) && has_digit ranks divisor base d l.code) letters
