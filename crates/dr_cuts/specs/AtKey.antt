-- A change of one item of a list whose items rise by a key.
use Rattle.std.specs.Prelude.{ℤ, List, [], ◌∷◌}
use Rattle.std.specs.Ordering.{int_cmp, match_ordering}

-- the item of that key is changed; where there is none, a fresh one is changed and put in its place
unfoldable pub at_key : {A : Type 0} → (A → ℤ) → A → (A → A) → ℤ → List A → List A
at_key key fresh change k [] = change fresh ∷ []
at_key key fresh change k (x ∷ xs) =
    match_ordering (int_cmp k (key x)) (change fresh ∷ x ∷ xs) (change x ∷ xs) (x ∷ at_key key fresh change k xs)

-- the item of that key; where there is none, the fresh one
abbrev pub item_at : {A : Type 0} → (A → ℤ) → A → ℤ → List A → A
item_at key fresh k [] = fresh
item_at key fresh k (x ∷ xs) = match_ordering (int_cmp k (key x)) fresh x (item_at key fresh k xs)
