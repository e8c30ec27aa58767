-- Of some things those that differ, while one more is added; and that each is among them.
use Rattle.std.proofs.Common.{◌≡◌, ◌∙◌, refl, ap, ℕ, zero, suc, ◌<◌, ◌||◌, ◌&&◌, Bool, true, false, List, [], ◌∷◌, ◌++◌, Option, Some, None, length, map, arith, if◌then◌else◌}
use Rattle.std.specs.List.{list_any, fold, AllByRecursion}
use Rattle.std.proofs.lemmas.Bool.{eq-eqb}
use Rattle.std.proofs.lemmas.List.{map-append}
use Rattle.std.proofs.lemmas.List.Folds.{list_any-append}
use Rattle.std.proofs.lemmas.List.Sums.{fold-append}
use Rattle.dr_ask.specs.declared.aggregation.Aggregation.{Aggregation}
use Rattle.dr_ask.specs.declared.column.Column.{Column}
use Rattle.dr_ask.specs.declared.dimension.Dimension.{Dimension}
use Rattle.dr_ask.specs.Firsts.{number_in, with_new, firsts, is_same_place, is_same_column, is_same_dimension, is_same_aggregation, kind_number}

module _ {A : Type 0} (same : A → A → Bool) where
  -- ---- the number of one that is there, and of one that isn't

  number_known : (ys : List A) (x : A) → list_any (same x) ys ≡ true → number_in same ys x < length ys
  number_known [] x h = absurd (cc)
  number_known (y ∷ ys) x h =
      elim (same x y) as (λ b. (b || list_any (same x) ys) ≡ true → (if b then zero else suc (number_in same ys x)) < suc (length ys))
      [ true ↦ λ t. omega arith | false ↦ λ t. let less = number_known ys x t in omega arith ] h

  pub number_new : (ys : List A) (x : A) → list_any (same x) ys ≡ false → number_in same ys x ≡ length ys
  number_new [] x h = refl
  number_new (y ∷ ys) x h =
      elim (same x y) as (λ b. (b || list_any (same x) ys) ≡ false → (if b then zero else suc (number_in same ys x)) ≡ suc (length ys))
      [ true ↦ λ t. absurd (cc) | false ↦ λ t. ap suc (number_new ys x t) ] h

  -- so the number tells whether it is there
  pub is_new : (ys : List A) (x : A) → number_in same ys x ≡ length ys → list_any (same x) ys ≡ false
  is_new ys x e =
      elim (list_any (same x) ys) as (λ b. list_any (same x) ys ≡ b → b ≡ false)
      [ true ↦ λ t. let less = number_known ys x t in absurd (omega arith) | false ↦ λ t. refl ] refl

  pub is_known : (ys : List A) (x : A) → (number_in same ys x ≡ length ys → ⊥) → list_any (same x) ys ≡ true
  is_known ys x other =
      elim (list_any (same x) ys) as (λ b. list_any (same x) ys ≡ b → b ≡ true)
      [ true ↦ λ t. refl | false ↦ λ t. absurd (other (number_new ys x t)) ] refl

  -- ---- more behind some

  number-append : (ys zs : List A) (x : A) → list_any (same x) ys ≡ true → number_in same (ys ++ zs) x ≡ number_in same ys x
  number-append [] zs x h = absurd (cc)
  number-append (y ∷ ys) zs x h =
      elim (same x y) as (λ b. (b || list_any (same x) ys) ≡ true → (if b then zero else suc (number_in same (ys ++ zs) x)) ≡ (if b then zero else suc (number_in same ys x)))
      [ true ↦ λ t. refl | false ↦ λ t. ap suc (number-append ys zs x t) ] h

  pub numbers-append : (ys zs xs : List A) → AllByRecursion (λ x. list_any (same x) ys ≡ true) xs → map (number_in same (ys ++ zs)) xs ≡ map (number_in same ys) xs
  numbers-append ys zs [] all = refl
  numbers-append ys zs (x ∷ xs) all = λ i. number-append ys zs x all.0 i ∷ numbers-append ys zs xs all.1 i

  any_left : (y : A) (ys zs : List A) → list_any (same y) ys ≡ true → list_any (same y) (ys ++ zs) ≡ true
  any_left y ys zs h = list_any-append (same y) ys zs ∙ ap (λ b. b || list_any (same y) zs) h

  any-with_new : (ys : List A) (x y : A) → list_any (same y) ys ≡ true → list_any (same y) (with_new same ys x) ≡ true
  any-with_new ys x y h =
      elim (list_any (same x) ys) as (λ b. list_any (same y) (if b then ys else ys ++ x ∷ []) ≡ true)
      [ true ↦ h | false ↦ any_left y ys (x ∷ []) h ]

  any-fold : (found xs : List A) (y : A) → list_any (same y) found ≡ true → list_any (same y) (fold (with_new same) found xs) ≡ true
  any-fold found [] y h = h
  any-fold found (x ∷ xs) y h = any-fold (with_new same found x) xs y (any-with_new found x y h)

  pub firsts-push : (xs : List A) (x : A) → firsts same (xs ++ x ∷ []) ≡ with_new same (firsts same xs) x
  firsts-push xs x = fold-append (with_new same) [] xs (x ∷ [])

  module _ (itself : (x : A) → same x x ≡ true) where
    any_last : (ys : List A) (x : A) → list_any (same x) (ys ++ x ∷ []) ≡ true
    any_last [] x = ap (λ b. b || false) (itself x)
    any_last (y ∷ ys) x = elim (same x y) as (λ b. (b || list_any (same x) (ys ++ x ∷ [])) ≡ true) [ true ↦ refl | false ↦ any_last ys x ]

    any_put : (ys : List A) (x : A) → list_any (same x) (with_new same ys x) ≡ true
    any_put ys x =
        elim (list_any (same x) ys) as (λ b. list_any (same x) ys ≡ b → list_any (same x) (if b then ys else ys ++ x ∷ []) ≡ true)
        [ true ↦ λ t. t | false ↦ λ t. any_last ys x ] refl

    stand : (found xs : List A) → AllByRecursion (λ y. list_any (same y) (fold (with_new same) found xs) ≡ true) xs
    stand found [] = tt
    stand found (x ∷ xs) = (any-fold (with_new same found x) xs x (any_put found x), stand (with_new same found x) xs)

    -- each is the same as one of those that differ
    pub each-stands : (xs : List A) → AllByRecursion (λ x. list_any (same x) (firsts same xs) ≡ true) xs
    each-stands xs = stand [] xs

    pub number_last : (ys : List A) (x : A) → list_any (same x) ys ≡ false → number_in same (ys ++ x ∷ []) x ≡ number_in same ys x
    number_last [] x h = ap (λ (b : Bool). if b then zero else suc zero) (itself x)
    number_last (y ∷ ys) x h =
        elim (same x y) as (λ b. (b || list_any (same x) ys) ≡ false → (if b then zero else suc (number_in same (ys ++ x ∷ []) x)) ≡ (if b then zero else suc (number_in same ys x)))
        [ true ↦ λ t. refl | false ↦ λ t. ap suc (number_last ys x t) ] h

    numbers-with_new : (found xs : List A) (x : A) → AllByRecursion (λ y. list_any (same y) found ≡ true) xs
        → map (number_in same (with_new same found x)) (xs ++ x ∷ []) ≡ map (number_in same found) xs ++ number_in same found x ∷ []
    numbers-with_new found xs x all =
        elim (list_any (same x) found) as (λ b. list_any (same x) found ≡ b → map (number_in same (if b then found else found ++ x ∷ [])) (xs ++ x ∷ []) ≡ map (number_in same found) xs ++ number_in same found x ∷ []) [
          | true ↦ λ t. map-append (number_in same found) xs (x ∷ [])
          | false ↦ λ t.
              map-append (number_in same (found ++ x ∷ [])) xs (x ∷ [])
              ∙ (λ i. numbers-append found (x ∷ []) xs all i ++ number_last found x t i ∷ [])
        ]
        refl

    -- the number of one more is its number among those that differ before it
    pub numbers-push : (xs : List A) (x : A)
        → map (number_in same (firsts same (xs ++ x ∷ []))) (xs ++ x ∷ []) ≡ map (number_in same (firsts same xs)) xs ++ number_in same (firsts same xs) x ∷ []
    numbers-push xs x =
        ap (λ found. map (number_in same found) (xs ++ x ∷ [])) (firsts-push xs x) ∙ numbers-with_new (firsts same xs) xs x (each-stands xs)

-- ---- dimensions and aggregations

place-itself : (p : Option ℕ) → is_same_place p p ≡ true
place-itself None = refl
place-itself (Some i) = eq-eqb i i refl

pub dimension-itself : (d : Dimension) → is_same_dimension d d ≡ true
dimension-itself d = place-itself d.place

column-itself : (c : Option Column) → is_same_column c c ≡ true
column-itself None = refl
column-itself (Some c) = λ i. eq-eqb c.place c.place refl i && eq-eqb (kind_number c.kind) (kind_number c.kind) refl i

pub aggregation-itself : (a : Aggregation) → is_same_aggregation a a ≡ true
aggregation-itself a = λ i. eq-eqb (kind_number a.kind) (kind_number a.kind) refl i && column-itself a.column i
