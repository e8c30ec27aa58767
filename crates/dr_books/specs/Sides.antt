-- What is of the first of two books, or of the second.
use Rattle.std.specs.Prelude.{◌≡◌, ℕ, List, ◌++◌, ◌+◌, length}
use Rattle.std.proofs.Common.{arith, length-append}
use Rattle.dr_books.specs.declared.side.Side.{Side}
use Rattle.dr_books.specs.declared.side.Side.TheVariants.{First, Second}

abbrev pub first : {A B : Type 0} → A → Side A B
first a = First a

abbrev pub second : {A B : Type 0} → B → Side A B
second b = Second b

-- by which of the two it is
abbrev pub match_side : {A B X : Type 0} → (A → X) → (B → X) → Side A B → X
match_side f g (First a) = f a
match_side f g (Second b) = g b

pub both_lengths : (xs ys : List ℕ) (m n : ℕ) → length xs ≡ m → length ys ≡ n → length (xs ++ ys) ≡ m + n
both_lengths xs ys m n h k = omega (arith, length-append {A = ℕ})
