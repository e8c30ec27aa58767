-- Values put in an order one by one.
use Rattle.std.specs.Prelude.{List, [], ◌∷◌}
use Rattle.std.specs.List.{fold}
use Rattle.std.specs.Ordering.{match_ordering}
use Rattle.std.specs.declared.cmp.Ordering.{Ordering}

-- one more value among some in that order, behind those that it doesn't come before
abbrev pub put_by : {A : Type 0} → (A → A → Ordering) → List A → A → List A
put_by cmp [] x = x ∷ []
put_by cmp (y ∷ ys) x = match_ordering (cmp x y) (x ∷ y ∷ ys) (y ∷ put_by cmp ys x) (y ∷ put_by cmp ys x)

-- values that compare as equal stay in their order
abbrev pub in_order_by : {A : Type 0} → (A → A → Ordering) → List A → List A
in_order_by cmp xs = fold (put_by cmp) [] xs
