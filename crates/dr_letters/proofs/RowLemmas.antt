-- Texts by their characters at a place.
use Rattle.std.proofs.Common.{inl, inr, ◌≡◌, ◌∙◌, sym, refl, ap, ℕ, zero, suc, ◌+◌, ◌-◌, ◌≤◌, ◌≢◌, ◌==◌, ◌&&◌, ◌||◌, not, Bool, true, false, List, [], ◌∷◌, get_or, drop, drop-drop, map, arith}
use Rattle.std.specs.Str.{chars}
use Rattle.std.specs.List.{list_any}
use Rattle.std.proofs.Math.ListN.{get_or-map}
use Rattle.std.proofs.lemmas.Bool.{cases_eq}
use Rattle.std.proofs.lemmas.Bool.Decides.{nat_tests}
use Rattle.std.proofs.lemmas.List.{length-map, get_or_default}
use Rattle.dr_like.specs.Like.{fits, is_empty, letter_fits, first_and_rest}
use Rattle.dr_rowindex.specs.Orders.{Tell}
use Rattle.dr_rowindex.proofs.PutLemmas.{PutWhere}
use Rattle.dr_letters.specs.Codes.{first_code, Keeps}
use Rattle.dr_letters.specs.Pieces.{MeetsTwo}
use Rattle.dr_letters.specs.States.{is_short, AreLong}

-- ---- a character

pub no_code : (cs : List ℕ) → (first_code cs == 0) ≡ is_empty cs
no_code [] = refl
no_code (c ∷ cs) = grind (arith, nat_tests)

pub any_code : (letter : ℕ) (cs : List ℕ) → letter ≡ 95 → not (first_code cs == 0) ≡ first_and_rest (letter_fits letter) (λ more. true) cs
any_code letter [] any = refl
any_code letter (c ∷ cs) any = grind (arith, nat_tests, any)

pub same_code : (letter : ℕ) (cs : List ℕ) → letter ≢ 95 → (first_code cs == letter + 1) ≡ first_and_rest (letter_fits letter) (λ more. true) cs
same_code letter [] one = grind (arith, nat_tests)
same_code letter (c ∷ cs) one = grind (arith, nat_tests, one)

nothing_behind : (m : ℕ) (cs : List ℕ) → cs ≡ [] → drop m cs ≡ []
nothing_behind zero cs none = none
nothing_behind (suc m) [] none = refl
nothing_behind (suc m) (c ∷ cs) none = absurd (cc none)

-- a text that has no character from a place on has none from a later one on
pub short_where_ended : (k n : ℕ) (cs : List ℕ) → k ≤ n → is_empty (drop k cs) ≡ (is_empty (drop n cs) && is_empty (drop k cs))
short_where_ended k n cs le = at (drop k cs) refl
  where
    far : k + (n - k) ≡ n
    far = omega (arith, le)

    closed : (b : Bool) → false ≡ (b && false)
    closed true = refl
    closed false = refl

    at : (ds : List ℕ) → drop k cs ≡ ds → is_empty ds ≡ (is_empty (drop n cs) && is_empty ds)
    at [] is = sym (ap (λ es. is_empty es && true) (ap (λ i. drop i cs) (sym far) ∙ sym (drop-drop (n - k) k cs) ∙ nothing_behind (n - k) (drop k cs) is))
    at (d ∷ ds) is = closed (is_empty (drop n cs))

pub ended_twice : (n : ℕ) (cs : List ℕ) → is_empty (drop n cs) ≡ (is_empty (drop n cs) && is_empty (drop n cs))
ended_twice n cs = twice (is_empty (drop n cs))
  where
    twice : (b : Bool) → b ≡ (b && b)
    twice true = refl
    twice false = refl

-- ---- of all texts

pub tell-mapped : {X V : Type 0} (f : V → Bool) (g : X → V) (h : X → Bool) (xs : List X) (told : List Bool) → ((x : X) → f (g x) ≡ h x) → Tell f (map g xs) told → Tell h xs told
tell-mapped f g h xs told same was = record {
  count = was.count ∙ length-map xs g;
  each = λ i x lt. was.each i (g x) (omega (arith, lt, length-map xs g)) ∙ ap f (get_or-map g xs i x) ∙ same (get_or xs i x);
}

pub keeps-mapped : {X V : Type 0} (f : V → Bool) (g : X → V) (h : X → Bool) (xs : List X) (before after : List Bool) → ((x : X) → f (g x) ≡ h x) → Keeps f (map g xs) before after → Keeps h xs before after
keeps-mapped f g h xs before after same was = record {
  count = was.count;
  each = λ i x lt. was.each i (g x) (omega (arith, lt, length-map xs g)) ∙ ap (λ b. get_or before i false && b) (ap f (get_or-map g xs i x) ∙ same (get_or xs i x));
}

pub meets-mapped : {X V : Type 0} (f : V → Bool) (g : X → V) (h : X → Bool) (xs : List X) (a b : List Bool) → ((x : X) → f (g x) ≡ h x) → MeetsTwo f (map g xs) a b → MeetsTwo h xs a b
meets-mapped f g h xs a b same was = record {
  counts = (was.counts.0 ∙ length-map xs g, was.counts.1 ∙ length-map xs g);
  each = λ i x lt. sym (same (get_or xs i x)) ∙ ap f (sym (get_or-map g xs i x)) ∙ was.each i (g x) (omega (arith, lt, length-map xs g));
}

-- ---- the others

one-row : (test : ℕ → Bool) (rows : List ℕ) (i : ℕ) → list_any (λ r. (r == i) && test r) rows ≡ (list_any (λ r. r == i) rows && test i)
one-row test [] i = refl
one-row test (r ∷ rows) i = elim (cases_eq r i) [
  | inl same ↦ here same (one-row test rows i)
  | inr differs ↦ (let no : (r == i) ≡ false = grind (arith, nat_tests, differs) in
      ap (λ b. (b && test r) || list_any (λ s. (s == i) && test s) rows) no ∙ one-row test rows i ∙ sym (ap (λ b. (b || list_any (λ s. s == i) rows) && test i) no))
]
  where
    here : r ≡ i → list_any (λ s. (s == i) && test s) rows ≡ (list_any (λ s. s == i) rows && test i) → ((r == i) && test r) || list_any (λ s. (s == i) && test s) rows ≡ (((r == i) || list_any (λ s. s == i) rows) && test i)
    here same others =
        let yes : (r == i) ≡ true = grind (arith, nat_tests, same) in
        ap (λ b. (b && test r) || list_any (λ s. (s == i) && test s) rows) yes ∙ ap (λ b. test r || b) others
        ∙ ap (λ j. test j || (list_any (λ s. s == i) rows && test i)) same ∙ once (test i) (list_any (λ s. s == i) rows)
        ∙ sym (ap (λ b. (b || list_any (λ s. s == i) rows) && test i) yes)
      where
        once : (a b : Bool) → (a || (b && a)) ≡ (true && a)
        once true b = refl
        once false true = refl
        once false false = refl

pub long-told : (texts : List (List ℕ)) (places : ℕ) (long : List ℕ) (pattern : List ℕ) (before after : List Bool) → AreLong texts places long
    → Tell (λ t. is_short places t && fits pattern (chars t)) texts before → PutWhere (λ r. fits pattern (chars (get_or texts r []))) long before after
    → Tell (λ t. fits pattern (chars t)) texts after
long-told texts places long pattern before after are was put = record {
  count = put.count ∙ was.count;
  each = λ i t lt.
      let x = get_or texts i t in
      put.each i
      ∙ ap (λ b. b || list_any (λ r. (r == i) && fits pattern (chars (get_or texts r []))) long) (was.each i t lt)
      ∙ ap (λ b. (is_short places x && fits pattern (chars x)) || b) (one-row (λ r. fits pattern (chars (get_or texts r []))) long i
      ∙ ap (λ b. b && fits pattern (chars (get_or texts i []))) (are.each i t lt)
      ∙ ap (λ y. not (is_short places x) && fits pattern (chars y)) (get_or_default texts i [] t lt))
      ∙ either (is_short places x) (fits pattern (chars x));
}
  where
    either : (a b : Bool) → ((a && b) || (not a && b)) ≡ b
    either true true = refl
    either true false = refl
    either false b = refl
