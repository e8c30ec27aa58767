-- Totals over a list, by any way to combine that is associative and commutative, and what rollup leaves of them. A fold of a
-- column over some rows is such a total, and so is whether one of them passes a test.
use Rattle.std.proofs.Common.{◌≡◌, ◌∙◌, sym, refl, ap, Bool, true, false, List, [], ◌∷◌, ◌++◌, map, filter, cond}
use Rattle.std.specs.List.{flat_map, fold}
use Rattle.std.specs.declared.cmp.Ordering.TheVariants.{Less, Equal, Greater}
use Rattle.std.specs.Ordering.{match_ordering}
use Rattle.dr_base.specs.declared.row.Row.{Row}
use Rattle.dr_base.specs.Order.{key_cmp}
use Rattle.dr_agg.specs.declared.kind.Kind.{Kind}
use Rattle.dr_agg.specs.Rollup.{add_row, joined, rollup_onto, rollup}

-- a way to combine, in any order and grouping, from e on
pub record Combines {M : Type 0} (op : M → M → M) (e : M) : Type 0 where
  pub assoc : (a b c : M) → op (op a b) c ≡ op a (op b c)
  pub comm : (a b : M) → op a b ≡ op b a
  pub unit : op e e ≡ e

-- each item's share, combined
abbrev pub total : {A M : Type 0} → (M → M → M) → M → (A → M) → List A → M
total op e f [] = e
total op e f (x ∷ xs) = op (f x) (total op e f xs)

pub exchange : {M : Type 0} {op : M → M → M} {e : M} → Combines op e → (a b c : M) → op a (op b c) ≡ op b (op a c)
exchange {op = op} k a b c = sym (k.assoc a b c) ∙ ap (λ x. op x c) (k.comm a b) ∙ k.assoc b a c

pub total-unit : {A M : Type 0} {op : M → M → M} {e : M} (k : Combines op e) (f : A → M) (xs : List A) → op e (total op e f xs) ≡ total op e f xs
total-unit k f [] = k.unit
total-unit {op = op} {e = e} k f (x ∷ xs) = exchange k e (f x) (total op e f xs) ∙ ap (op (f x)) (total-unit k f xs)

pub total-append : {A M : Type 0} {op : M → M → M} {e : M} (k : Combines op e) (f : A → M) (xs ys : List A) → total op e f (xs ++ ys) ≡ op (total op e f xs) (total op e f ys)
total-append k f [] ys = sym (total-unit k f ys)
total-append {op = op} {e = e} k f (x ∷ xs) ys = ap (op (f x)) (total-append k f xs ys) ∙ sym (k.assoc (f x) (total op e f xs) (total op e f ys))

pub total-map : {A B M : Type 0} (op : M → M → M) (e : M) (f : B → M) (g : A → B) (xs : List A) → total op e f (map g xs) ≡ total op e (λ x. f (g x)) xs
total-map op e f g [] = refl
total-map op e f g (x ∷ xs) = ap (op (f (g x))) (total-map op e f g xs)

pub total-flat_map : {A B M : Type 0} {op : M → M → M} {e : M} (k : Combines op e) (f : B → M) (g : A → List B) (xs : List A) → total op e f (flat_map g xs) ≡ total op e (λ x. total op e f (g x)) xs
total-flat_map k f g [] = refl
total-flat_map {op = op} {e = e} k f g (x ∷ xs) = total-append k f (g x) (flat_map g xs) ∙ ap (op (total op e f (g x))) (total-flat_map k f g xs)

-- items whose share is the unit
pub total-units : {A M : Type 0} {op : M → M → M} {e : M} (k : Combines op e) (f : A → M) → ((x : A) → f x ≡ e) → (xs : List A) → total op e f xs ≡ e
total-units k f h [] = refl
total-units {op = op} {e = e} k f h (x ∷ xs) = ap (λ s. op s (total op e f xs)) (h x) ∙ total-unit k f xs ∙ total-units k f h xs

pub total-same : {A M : Type 0} (op : M → M → M) (e : M) (f g : A → M) → ((x : A) → f x ≡ g x) → (xs : List A) → total op e f xs ≡ total op e g xs
total-same op e f g h [] = refl
total-same op e f g h (x ∷ xs) = λ i. op (h x i) (total-same op e f g h xs i)

-- the share of a row that was joined is that of both
abbrev pub Joins : {M : Type 0} → (M → M → M) → List Kind → (Row → M) → Type 0
Joins op kinds f = (x r : Row) → key_cmp r.key x.key ≡ Equal → f (joined kinds x r) ≡ op (f x) (f r)

total-add_row : {M : Type 0} {op : M → M → M} {e : M} (k : Combines op e) (f : Row → M) (combines : Bool) (kinds : List Kind) → (combines ≡ true → Joins op kinds f) → (rows : List Row) (r : Row)
    → total op e f (add_row combines kinds rows r) ≡ op (f r) (total op e f rows)
unfolding add_row
total-add_row k f combines kinds law [] r = refl
total-add_row {op = op} {e = e} k f true kinds law (x ∷ xs) r =
    elim (key_cmp r.key x.key) as (λ o. key_cmp r.key x.key ≡ o → total op e f (match_ordering o (r ∷ x ∷ xs) (joined kinds x r ∷ xs) (x ∷ add_row true kinds xs r)) ≡ op (f r) (op (f x) (total op e f xs))) [
      | Less ↦ λ h. refl
      | Equal ↦ λ h. ap (λ s. op s (total op e f xs)) (law refl x r h ∙ k.comm (f x) (f r)) ∙ k.assoc (f r) (f x) (total op e f xs)
      | Greater ↦ λ h. ap (op (f x)) (total-add_row k f true kinds law xs r) ∙ exchange k (f x) (f r) (total op e f xs)
    ] refl
total-add_row {op = op} {e = e} k f false kinds law (x ∷ xs) r =
    elim (key_cmp r.key x.key) as (λ o. total op e f (match_ordering o (r ∷ x ∷ xs) (x ∷ add_row false kinds xs r) (x ∷ add_row false kinds xs r)) ≡ op (f r) (op (f x) (total op e f xs))) [
      | Less ↦ refl
      | Equal ↦ ap (op (f x)) (total-add_row k f false kinds law xs r) ∙ exchange k (f x) (f r) (total op e f xs)
      | Greater ↦ ap (op (f x)) (total-add_row k f false kinds law xs r) ∙ exchange k (f x) (f r) (total op e f xs)
    ]

total-rollup_onto : {M : Type 0} {op : M → M → M} {e : M} (k : Combines op e) (f : Row → M) (combines : Bool) (kinds : List Kind) → (combines ≡ true → Joins op kinds f) → (rows es : List Row)
    → total op e f (rollup_onto combines kinds rows es) ≡ op (total op e f es) (total op e f rows)
unfolding rollup_onto
total-rollup_onto k f combines kinds law rows [] = sym (total-unit k f rows)
total-rollup_onto {op = op} {e = e} k f combines kinds law rows (r ∷ es) =
    total-rollup_onto k f combines kinds law (add_row combines kinds rows r) es
    ∙ ap (op (total op e f es)) (total-add_row k f combines kinds law rows r)
    ∙ exchange k (total op e f es) (f r) (total op e f rows)
    ∙ sym (k.assoc (f r) (total op e f es) (total op e f rows))

-- rollup keeps the total
pub total-rollup : {M : Type 0} {op : M → M → M} {e : M} (k : Combines op e) (f : Row → M) (combines : Bool) (kinds : List Kind) → (combines ≡ true → Joins op kinds f) → (es : List Row)
    → total op e f (rollup combines kinds es) ≡ total op e f es
total-rollup {op = op} {e = e} k f combines kinds law es =
    total-rollup_onto k f combines kinds law [] es ∙ k.comm (total op e f es) e ∙ total-unit k f es

-- a fold from the unit on is a total
fold-total_from : {A M : Type 0} {op : M → M → M} {e : M} (k : Combines op e) (f : A → M) (a : M) (xs : List A) → op a e ≡ a → fold op a (map f xs) ≡ op a (total op e f xs)
fold-total_from k f a [] h = sym h
fold-total_from {op = op} {e = e} k f a (x ∷ xs) h =
    let kept : op (op a (f x)) e ≡ op a (f x) = k.assoc a (f x) e ∙ ap (op a) (k.comm (f x) e) ∙ sym (k.assoc a e (f x)) ∙ ap (λ y. op y (f x)) h in
    fold-total_from k f (op a (f x)) xs kept ∙ k.assoc a (f x) (total op e f xs)

pub fold-total : {A M : Type 0} {op : M → M → M} {e : M} (k : Combines op e) (f : A → M) (xs : List A) → fold op e (map f xs) ≡ total op e f xs
fold-total {e = e} k f xs = fold-total_from k f e xs k.unit ∙ total-unit k f xs

-- what a filter leaves out has the unit as its share
pub total-filter : {A M : Type 0} {op : M → M → M} {e : M} (k : Combines op e) (f : A → M) (p : A → Bool) (xs : List A) → total op e f (filter p xs) ≡ total op e (λ x. cond (p x) (f x) e) xs
total-filter k f p [] = refl
total-filter {op = op} {e = e} k f p (x ∷ xs) =
    elim (p x) as (λ b. total op e f (cond b (x ∷ filter p xs) (filter p xs)) ≡ op (cond b (f x) e) (total op e (λ x. cond (p x) (f x) e) xs)) [
      | true ↦ ap (op (f x)) (total-filter k f p xs)
      | false ↦ total-filter k f p xs ∙ sym (total-unit k (λ x. cond (p x) (f x) e) xs)
    ]
