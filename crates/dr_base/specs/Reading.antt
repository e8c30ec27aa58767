-- What a function that reads has to do with the definition of what is read. A definition answers a value, or the
-- first refusal; the function answers the same, unless memory ran out.
use Rattle.std.specs.Prelude.{◌≡◌, Bool, false, Result, Ok, Err}

infixl 10 ◌>>=◌
-- one step after another, up to the first refusal
abbrev pub ◌>>=◌ : {A B E : Type 0} → Result A E → (A → Result B E) → Result B E
(Ok x) >>= f = f x
(Err e) >>= f = Err e

-- a reading whose refusals pass through a crate above, which wraps each
abbrev pub passed : {A E F : Type 0} → (E → F) → Result A E → Result A F
passed wrap (Ok x) = Ok x
passed wrap (Err e) = Err (wrap e)

-- the refusal is that of the reading, unless it says that memory ran out
abbrev pub FailsUnless : {Y E : Type 0} → (E → Bool) → E → Result Y E → Type 0
FailsUnless is_memory e reading = is_memory e ≡ false → reading ≡ Err e

-- what a function returned, seen by view, is what the reading gives, unless memory ran out
abbrev pub GivesUnless : {X Y E : Type 0} → (E → Bool) → (X → Y) → Result X E → Result Y E → Type 0
GivesUnless is_memory view (Ok x) reading = reading ≡ Ok (view x)
GivesUnless is_memory view (Err e) reading = FailsUnless is_memory e reading
