-- Rows that pass one test after another.
use Rattle.std.proofs.Common.{◌≡◌, refl, ap, Bool, true, false, List, [], ◌∷◌, map, filter, cond, ◌&&◌, ◌||◌}
use Rattle.std.specs.List.{list_any}
use Rattle.dr_base.specs.declared.key.Key.{Key}
use Rattle.dr_base.specs.declared.row.Row.{Row}

pub filter-filter : {A : Type 0} (p q : A → Bool) (xs : List A) → filter q (filter p xs) ≡ filter (λ x. p x && q x) xs
filter-filter p q [] = refl
filter-filter p q (x ∷ xs) =
    elim (p x) as (λ b. filter q (cond b (x ∷ filter p xs) (filter p xs)) ≡ cond (b && q x) (x ∷ filter (λ x. p x && q x) xs) (filter (λ x. p x && q x) xs)) [
      | true ↦ ap (λ l. cond (q x) (x ∷ l) l) (filter-filter p q xs)
      | false ↦ filter-filter p q xs
    ]

-- what is made of the keys of the rows that pass a test passes another where a key passes both
pub list_any-made : (p : Key → Bool) (make : Key → Key) (s : Key → Bool) (rows : List Row) → list_any p (map (λ r. make r.key) (filter (λ r. s r.key) rows)) ≡ list_any (λ r. s r.key && p (make r.key)) rows
list_any-made p make s [] = refl
list_any-made p make s (r ∷ rows) =
    let rest : List Row = filter (λ r. s r.key) rows in
    elim (s r.key) as (λ b. list_any p (map (λ r. make r.key) (cond b (r ∷ rest) rest)) ≡ ((b && p (make r.key)) || list_any (λ r. s r.key && p (make r.key)) rows)) [
      | true ↦ ap (λ b. p (make r.key) || b) (list_any-made p make s rows)
      | false ↦ list_any-made p make s rows
    ]
