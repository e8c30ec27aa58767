-- What is known of a reading that gave a value.
use Rattle.std.proofs.Common.{◌≡◌, List, [], ◌∷◌, ◌++◌, Result, Ok, Err, refl, subst}
use Rattle.std.specs.List.{AllByRecursion}
use Rattle.serde_json.specs.Data.{Data, Items, no_items, item}
use Rattle.dr_base.specs.Each.{each_from}
use Rattle.dr_base.specs.Reading.{◌>>=◌, passed}

-- what a reading of two steps gives, its second step gave
pub through : {A B E : Type 0} (r : Result A E) (f : A → Result B E) (x : B) {P : Type 0} → (r >>= f) ≡ Ok x → ((y : A) → r ≡ Ok y → f y ≡ Ok x → P) → P
through (Ok y) f x e then = then y refl e
through (Err g) f x e then = cc

-- a value that passed through a crate above
pub passed_through : {A E F : Type 0} (wrap : E → F) (r : Result A E) (x : A) → passed wrap r ≡ Ok x → r ≡ Ok x
passed_through wrap (Ok y) x e = cc
passed_through wrap (Err g) x e = cc

pub AllByRecursion-push : {A : Type 0} (P : A → Type 0) (xs : List A) (x : A) → AllByRecursion P xs → P x → AllByRecursion P (xs ++ x ∷ [])
AllByRecursion-push P [] x h p = (p, tt)
AllByRecursion-push P (y ∷ ys) x h p = (h.0, AllByRecursion-push P ys x h.1 p)

-- of items that are read in turn each has what every item that is read has
pub each-all : {A E : Type 0} (P : A → Type 0) (reading : Data → Result A E) → ((d : Data) (a : A) → reading d ≡ Ok a → P a)
    → (read : List A) (ds : Items) (whole : List A) → AllByRecursion P read → each_from reading read ds ≡ Ok whole → AllByRecursion P whole
unfolding each_from
each-all P reading of_item read no_items whole h e = let same : read ≡ whole = cc in subst (AllByRecursion P) same h
each-all P reading of_item read (item d ds) whole h e =
    through (reading d) _ whole e (λ a one e. each-all P reading of_item (read ++ a ∷ []) ds whole (AllByRecursion-push P read a h (of_item d a one)) e)
