-- Lists of distinct texts, and the place of one.
use Rattle.std.proofs.Common.{◌≡◌, ◌∙◌, sym, refl, ap, ℕ, ◌+◌, ◌<◌, Bool, true, false, cond, not, nat_lt, ◌||◌, List, [], ◌∷◌, ◌++◌, map, length, take, get_or, None, Some, bytes_eq, arith, is_some, lt-ltb, le-ltb, true≢false, subst, if◌then◌else◌, suc, zero}
use Rattle.std.specs.List.{position, position_or_len, list_any, AllByRecursion, IsDistinct}
use Rattle.std.specs.Cmp.Lexicographic.{nat_list_eq_equiv}
use Rattle.std.proofs.lemmas.Bool.{or_parts}
use Rattle.std.proofs.lemmas.List.{length-map}
use Rattle.dr_dict.specs.Dictionary.{number_in, with_text}

module _ {K X : Type 0} (f : K → X) where
  all_mapped : (P : X → Type 0) (ks : List K) → AllByRecursion (λ k. P (f k)) ks → AllByRecursion P (map f ks)
  all_mapped P [] all = tt
  all_mapped P (k ∷ ks) all = (all.0, all_mapped P ks all.1)

  pub distinct-map : (eq : X → X → Bool) (ks : List K) → IsDistinct (λ a b. eq (f a) (f b)) ks → IsDistinct eq (map f ks)
  unfolding IsDistinct
  distinct-map eq [] d = tt
  distinct-map eq (k ∷ ks) d = (all_mapped (λ y. eq (f k) y ≡ false) ks d.0, distinct-map eq ks d.1)

  pub list_any-map : (p : X → Bool) (ks : List K) → list_any (λ k. p (f k)) ks ≡ list_any p (map f ks)
  list_any-map p [] = refl
  list_any-map p (k ∷ ks) = ap (λ b. p (f k) || b) (list_any-map p ks)

  or_len-map : (p : X → Bool) (ks : List K) → position_or_len (λ k. p (f k)) ks ≡ position_or_len p (map f ks)
  or_len-map p [] = refl
  or_len-map p (k ∷ ks) = ap (λ n. cond (not (p (f k))) (1 + n) 0) (or_len-map p ks)

  pub position-map : (p : X → Bool) (ks : List K) → position (λ k. p (f k)) ks ≡ position p (map f ks)
  position-map p ks = λ i. cond (nat_lt (or_len-map p ks i) (sym (length-map ks f) i)) (Some (or_len-map p ks i)) None

module _ {X : Type 0} (p : X → Bool) where
  -- where none passes, the place is the end
  pub or_len-none : (xs : List X) → list_any p xs ≡ false → position_or_len p xs ≡ length xs
  or_len-none [] h = refl
  or_len-none (x ∷ xs) h =
      elim (p x) as (λ b. (b || list_any p xs) ≡ false → cond (not b) (1 + position_or_len p xs) 0 ≡ suc (length xs))
      [ true ↦ λ g. absurd (true≢false g) | false ↦ λ g. ap (λ n. 1 + n) (or_len-none xs g) ∙ omega arith ]
      h

  pub or_len-some : (xs : List X) → list_any p xs ≡ true → position_or_len p xs < length xs
  or_len-some [] h = absurd (true≢false (sym h))
  or_len-some (x ∷ xs) h =
      elim (p x) as (λ b. (b || list_any p xs) ≡ true → cond (not b) (1 + position_or_len p xs) 0 < suc (length xs))
      [ true ↦ λ g. omega arith | false ↦ λ g. (let less = or_len-some xs g in omega arith) ]
      h

  -- there is a place exactly where one passes
  pub some-position : (xs : List X) → is_some (position p xs) ≡ list_any p xs
  some-position xs =
      elim (list_any p xs) as (λ b. list_any p xs ≡ b → is_some (position p xs) ≡ b) [
        | true ↦ λ h. ap (λ b. is_some (cond b (Some (position_or_len p xs)) None)) (lt-ltb _ _ (or_len-some xs h))
        | false ↦ λ h. ap (λ b. is_some (cond b (Some (position_or_len p xs)) None)) (le-ltb _ _ (let e = or_len-none xs h in omega arith))
      ]
      refl

  -- the place of the first that passes, behind those that don't
  or_len-last : (xs : List X) (x : X) → list_any p xs ≡ false → p x ≡ true → position_or_len p (xs ++ x ∷ []) ≡ length xs
  or_len-last [] x h e = ap (λ b. cond (not b) 1 0) e
  or_len-last (y ∷ xs) x h e =
      elim (p y) as (λ b. (b || list_any p xs) ≡ false → cond (not b) (1 + position_or_len p (xs ++ x ∷ [])) 0 ≡ suc (length xs))
      [ true ↦ λ g. absurd (true≢false g) | false ↦ λ g. ap (λ n. 1 + n) (or_len-last xs x g e) ∙ omega arith ]
      h

  length-last : (xs : List X) (x : X) → length xs < length (xs ++ x ∷ [])
  length-last [] x = omega arith
  length-last (y ∷ xs) x = let less = length-last xs x in omega arith

  pub position-last : (xs : List X) (x : X) → list_any p xs ≡ false → p x ≡ true → position p (xs ++ x ∷ []) ≡ Some (length xs)
  position-last xs x h e =
      ap (λ n. cond (nat_lt n (length (xs ++ x ∷ []))) (Some n) None) (or_len-last xs x h e)
      ∙ ap (λ b. cond b (Some (length xs)) None) (lt-ltb _ _ (length-last xs x))

-- ---- distinct texts

pub distinct-nil : IsDistinct bytes_eq []
unfolding IsDistinct
distinct-nil = tt

all_pushed : {X : Type 0} (P : X → Type 0) (xs : List X) (x : X) → AllByRecursion P xs → P x → AllByRecursion P (xs ++ x ∷ [])
all_pushed P [] x all one = (one, tt)
all_pushed P (y ∷ xs) x all one = (all.0, all_pushed P xs x all.1 one)

pub distinct-push : (ts : List (List ℕ)) (t : List ℕ) → IsDistinct bytes_eq ts → list_any (bytes_eq t) ts ≡ false → IsDistinct bytes_eq (ts ++ t ∷ [])
unfolding IsDistinct
distinct-push [] t d h = (tt, tt)
distinct-push (u ∷ ts) t d h =
    let neither = or_parts (bytes_eq t u) _ h in
    (all_pushed (λ y. bytes_eq u y ≡ false) ts t d.0 (nat_list_eq_equiv.symm u t ∙ neither.0), distinct-push ts t d.1 neither.1)

all_taken : {X : Type 0} (P : X → Type 0) (n : ℕ) (xs : List X) → AllByRecursion P xs → AllByRecursion P (take n xs)
all_taken P zero xs all = tt
all_taken P (suc n) [] all = tt
all_taken P (suc n) (x ∷ xs) all = (all.0, all_taken P n xs all.1)

pub distinct-take : (n : ℕ) (ts : List (List ℕ)) → IsDistinct bytes_eq ts → IsDistinct bytes_eq (take n ts)
unfolding IsDistinct
distinct-take zero ts d = tt
distinct-take (suc n) [] d = tt
distinct-take (suc n) (t ∷ ts) d = (all_taken (λ y. bytes_eq t y ≡ false) n ts d.0, distinct-take n ts d.1)

-- ---- a text that is added

any_known : (ts : List (List ℕ)) (t : List ℕ) (n : ℕ) → Some n ≡ number_in ts t → list_any (bytes_eq t) ts ≡ true
any_known ts t n h = sym (some-position (bytes_eq t) ts) ∙ ap is_some (sym h)

any_fresh : (ts : List (List ℕ)) (t : List ℕ) → None ≡ number_in ts t → list_any (bytes_eq t) ts ≡ false
any_fresh ts t h = sym (some-position (bytes_eq t) ts) ∙ ap is_some (sym h)

pub with_text-known : (ts : List (List ℕ)) (t : List ℕ) (n : ℕ) → Some n ≡ number_in ts t → with_text ts t ≡ ts
with_text-known ts t n h = ap (λ b. if b then ts else ts ++ t ∷ []) (any_known ts t n h)

pub with_text-fresh : (ts : List (List ℕ)) (t : List ℕ) → None ≡ number_in ts t → with_text ts t ≡ ts ++ t ∷ []
with_text-fresh ts t h = ap (λ b. if b then ts else ts ++ t ∷ []) (any_fresh ts t h)

pub number-fresh : (ts : List (List ℕ)) (t : List ℕ) → None ≡ number_in ts t → number_in (with_text ts t) t ≡ Some (length ts)
number-fresh ts t h = ap (λ l. number_in l t) (with_text-fresh ts t h) ∙ position-last (bytes_eq t) ts t (any_fresh ts t h) (nat_list_eq_equiv.refl t)

pub distinct-with_text : (ts : List (List ℕ)) (t : List ℕ) → IsDistinct bytes_eq ts → None ≡ number_in ts t → IsDistinct bytes_eq (with_text ts t)
distinct-with_text ts t d h = subst (IsDistinct bytes_eq) (sym (with_text-fresh ts t h)) (distinct-push ts t d (any_fresh ts t h))

-- ---- a text at a place

other_there : (u : List ℕ) (ts : List (List ℕ)) (i : ℕ) (t : List ℕ) → AllByRecursion (λ y. bytes_eq u y ≡ false) ts → i < length ts → t ≡ get_or ts i t → bytes_eq t u ≡ false
other_there u [] i t all lt is = absurd (omega (arith, lt))
other_there u (x ∷ ts) zero t all lt is = nat_list_eq_equiv.symm t u ∙ ap (bytes_eq u) is ∙ all.0
other_there u (x ∷ ts) (suc i) t all lt is = other_there u ts i t all.1 (omega (arith, lt)) is

-- distinct texts don't have it before
pub distinct-before : (ts : List (List ℕ)) (i : ℕ) (t : List ℕ) → IsDistinct bytes_eq ts → i < length ts → t ≡ get_or ts i t → list_any (bytes_eq t) (take i ts) ≡ false
unfolding IsDistinct
distinct-before [] i t d lt is = absurd (omega (arith, lt))
distinct-before (u ∷ ts) zero t d lt is = refl
distinct-before (u ∷ ts) (suc i) t d lt is =
    ap (λ b. b || list_any (bytes_eq t) (take i ts)) (other_there u ts i t d.0 (omega (arith, lt)) is) ∙ distinct-before ts i t d.1 (omega (arith, lt)) is

-- the number of a text that is there, or that it gets
pub number-added : (ts : List (List ℕ)) (t : List ℕ) → number_in (with_text ts t) t ≡ Some (position_or_len (bytes_eq t) ts)
number-added ts t =
    elim (list_any (bytes_eq t) ts) as (λ b. list_any (bytes_eq t) ts ≡ b → number_in (if b then ts else ts ++ t ∷ []) t ≡ Some (position_or_len (bytes_eq t) ts)) [
      | true ↦ λ h. ap (λ b. cond b (Some (position_or_len (bytes_eq t) ts)) None) (lt-ltb _ _ (or_len-some (bytes_eq t) ts h))
      | false ↦ λ h. position-last (bytes_eq t) ts t h (nat_list_eq_equiv.refl t) ∙ ap Some (sym (or_len-none (bytes_eq t) ts h))
    ] refl

pub distinct-added : (ts : List (List ℕ)) (t : List ℕ) → IsDistinct bytes_eq ts → IsDistinct bytes_eq (with_text ts t)
distinct-added ts t d =
    elim (list_any (bytes_eq t) ts) as (λ b. list_any (bytes_eq t) ts ≡ b → IsDistinct bytes_eq (if b then ts else ts ++ t ∷ [])) [ true ↦ λ h. d | false ↦ λ h. distinct-push ts t d h ] refl
