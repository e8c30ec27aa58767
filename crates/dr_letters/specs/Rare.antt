-- Codes with ranks, by whose digits it is told which texts have them. No public contract cites this file.
use Rattle.std.specs.Prelude.{◌≡◌, ℕ, ◌<◌, Bool, true, ◌&&◌, List, length, get_or, IsSome}
use Rattle.std.specs.List.{All}
use Rattle.std.specs.BTreeMap.{BTreeMap}
use Rattle.dr_rowindex.specs.Orders.{Tell}
use Rattle.dr_rowindex.specs.declared.row_set.RowSet.{RowSet}
use Rattle.dr_letters.specs.declared.rare_codes.RareCodes.{RareCodes}
use Rattle.dr_letters.specs.declared.text_letter.TextLetter.{TextLetter}
use Rattle.dr_letters.specs.Ranks.{HoldDigits, has_digit, rank_of}

-- the letters have ranks, and so it was told of each place
pub record HoldRare (count : ℕ) (letters : List TextLetter) (r : RareCodes) : Type 0 where
  pub ranked : All (λ (l : TextLetter). IsSome (rank_of r.ranks l.code)) letters
  pub last : HoldDigits count letters r.ranks 1 r.base r.last.items
  pub first : HoldDigits count letters r.ranks r.base 18446744073709551615 r.first.items

-- of each digit at a place of the ranks it is told which of the numbers that pass a test have it
abbrev pub AreDigits : (test : ℕ → Bool) (numbers : List ℕ) → BTreeMap ℕ ℕ → (divisor base : ℕ) → List RowSet → Type 0
AreDigits test numbers ranks divisor base sets = (d : ℕ) (told : List Bool) → d < length sets → Tell (λ n. test n && has_digit ranks divisor base d n) numbers (get_or sets d told)

-- the numbers that pass a test have ranks, and so it is told of each place
pub record AreRare (test : ℕ → Bool) (numbers : List ℕ) (r : RareCodes) : Type 0 where
  pub ranked : (i : ℕ) → i < length numbers → test (get_or numbers i 0) ≡ true → IsSome (rank_of r.ranks (get_or numbers i 0))
  pub last : AreDigits test numbers r.ranks 1 r.base r.last.items
  pub first : AreDigits test numbers r.ranks r.base 18446744073709551615 r.first.items
