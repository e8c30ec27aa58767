-- Values of some things, of which some are the same, compare as those of the first of each that are the same.
use Rattle.std.proofs.Common.{◌≡◌, ◌∙◌, sym, refl, ap, ℕ, zero, suc, ◌||◌, Bool, true, false, List, [], ◌∷◌, ◌++◌, map, if◌then◌else◌}
use Rattle.std.specs.Prelude.{slice_get, unwrap_or}
use Rattle.std.specs.List.{list_any, fold, AllByRecursion}
use Rattle.std.specs.Cmp.Lexicographic.{slice_cmp}
use Rattle.std.specs.Ordering.{ordering_then}
use Rattle.std.specs.declared.cmp.Ordering.{Ordering}
use Rattle.std.specs.declared.cmp.Ordering.TheVariants.{Less, Equal, Greater}
use Rattle.dr_order.proofs.Deciding.{then_equal, then_then}
use Rattle.dr_ask.specs.Firsts.{number_in, with_new, firsts, numbers_of}
use Rattle.dr_ask.proofs.Firsts.{each-stands}

-- ---- orders

then_first : (o p : Ordering) → ordering_then o p ≡ Equal → o ≡ Equal
then_first Less p e = absurd (cc)
then_first Equal p e = refl
then_first Greater p e = absurd (cc)

then_second : (o p : Ordering) → ordering_then o p ≡ Equal → p ≡ Equal
then_second Less p e = absurd (cc)
then_second Equal p e = e
then_second Greater p e = absurd (cc)

module _ {A T : Type 0} (same : A → A → Bool) (cmp : T → T → Ordering) (v w : A → T)
    (first : (a b : A) → same a b ≡ true → v a ≡ v b) (second : (a b : A) → same a b ≡ true → w a ≡ w b) where
  abbrev compared : List A → Ordering
  compared xs = slice_cmp cmp (map v xs) (map w xs)

  stands_equal : (xs : List A) (a : A) → list_any (same a) xs ≡ true → compared xs ≡ Equal → cmp (v a) (w a) ≡ Equal
  stands_equal [] a h e = absurd (cc)
  stands_equal (x ∷ xs) a h e =
      elim (same a x) as (λ b. same a x ≡ b → (b || list_any (same a) xs) ≡ true → cmp (v a) (w a) ≡ Equal) [
        | true ↦ λ s t. (λ i. cmp (first a x s i) (second a x s i)) ∙ then_first (cmp (v x) (w x)) (compared xs) e
        | false ↦ λ s t. stands_equal xs a t (then_second (cmp (v x) (w x)) (compared xs) e)
      ]
      refl h

  stood : (xs : List A) (a : A) → list_any (same a) xs ≡ true → compared xs ≡ ordering_then (compared xs) (cmp (v a) (w a))
  stood xs a h =
      elim (compared xs) as (λ o. compared xs ≡ o → o ≡ ordering_then o (cmp (v a) (w a)))
      [ Less ↦ λ t. refl | Equal ↦ λ t. sym (stands_equal xs a h t) | Greater ↦ λ t. refl ] refl

  compared-push : (xs : List A) (a : A) → compared (xs ++ a ∷ []) ≡ ordering_then (compared xs) (cmp (v a) (w a))
  compared-push [] a = then_equal (cmp (v a) (w a))
  compared-push (x ∷ xs) a = ap (ordering_then (cmp (v x) (w x))) (compared-push xs a) ∙ sym (then_then (cmp (v x) (w x)) (compared xs) (cmp (v a) (w a)))

  compared-with_new : (xs : List A) (a : A) → compared (with_new same xs a) ≡ ordering_then (compared xs) (cmp (v a) (w a))
  compared-with_new xs a =
      elim (list_any (same a) xs) as (λ b. list_any (same a) xs ≡ b → compared (if b then xs else xs ++ a ∷ []) ≡ ordering_then (compared xs) (cmp (v a) (w a)))
      [ true ↦ λ t. stood xs a t | false ↦ λ t. compared-push xs a ] refl

  compared-fold : (found xs : List A) → compared (fold (with_new same) found xs) ≡ ordering_then (compared found) (compared xs)
  compared-fold found [] = sym (then_equal (compared found))
  compared-fold found (x ∷ xs) =
      compared-fold (with_new same found x) xs
      ∙ ap (λ o. ordering_then o (compared xs)) (compared-with_new found x)
      ∙ then_then (compared found) (cmp (v x) (w x)) (compared xs)

  pub compared-firsts : (xs : List A) → compared (firsts same xs) ≡ compared xs
  compared-firsts xs = compared-fold [] xs

-- ---- the value of each, found by its number

module _ {A T : Type 0} (same : A → A → Bool) (itself : (a : A) → same a a ≡ true) (none : T) (v : A → T) (alike : (a b : A) → same a b ≡ true → v a ≡ v b) where
  abbrev at : List T → ℕ → T
  at values n = unwrap_or (slice_get values n) none

  at-number : (found : List A) (a : A) → list_any (same a) found ≡ true → at (map v found) (number_in same found a) ≡ v a
  at-number [] a h = absurd (cc)
  at-number (b ∷ found) a h =
      elim (same a b) as (λ t. same a b ≡ t → (t || list_any (same a) found) ≡ true → at (v b ∷ map v found) (if t then zero else suc (number_in same found a)) ≡ v a)
      [ true ↦ λ s t. sym (alike a b s) | false ↦ λ s t. at-number found a t ] refl h

  at-numbers : (found xs : List A) → AllByRecursion (λ a. list_any (same a) found ≡ true) xs → map (at (map v found)) (map (number_in same found) xs) ≡ map v xs
  at-numbers found [] all = refl
  at-numbers found (x ∷ xs) all = λ i. at-number found x all.0 i ∷ at-numbers found xs all.1 i

  pub values-firsts : (xs : List A) → map (at (map v (firsts same xs))) (numbers_of same xs) ≡ map v xs
  values-firsts xs = at-numbers (firsts same xs) xs (each-stands same itself xs)
