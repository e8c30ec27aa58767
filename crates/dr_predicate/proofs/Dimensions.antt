-- One test more among those that are asked together.
use Rattle.std.proofs.Common.{◌≡◌, ◌∙◌, refl, ap, ℕ, zero, suc, ◌<◌, Bool, not, ◌&&◌, ◌||◌, List, [], ◌∷◌, length, get_or, set, Option, true, false, sym, bytes_eq, arith}
use Rattle.std.specs.List.{list_all}
use Rattle.std.specs.Cmp.Lexicographic.{bytes_decides}
use Rattle.dr_predicate.specs.declared.asked_dimension.AskedDimension.{AskedDimension}
use Rattle.dr_predicate.specs.declared.value_tests.ValueTests.{ValueTests}
use Rattle.dr_predicate.specs.Asked.{all_asked, asked_at, IsAskedAt}
use Rattle.dr_predicate.specs.Match.{value_at}
use Rattle.dr_base.proofs.Truths.{and_regroups, and_swaps, and_true}

module _ (f : AskedDimension → Bool) (a new : AskedDimension) (b : Bool) where
  -- one dimension is asked one thing more than what it takes the place of
  list_all-set : (asked : List AskedDimension) (i : ℕ) → i < length asked → a ≡ get_or asked i a → f new ≡ (f a && b) → list_all f (set asked i new) ≡ (list_all f asked && b)
  list_all-set [] i lt is h = absurd (omega (arith, lt))
  list_all-set (x ∷ xs) zero lt is h = ap (λ c. c && list_all f xs) (h ∙ ap (λ z. f z && b) is) ∙ and_swaps (f x) b (list_all f xs)
  list_all-set (x ∷ xs) (suc i) lt is h = ap (λ c. f x && c) (list_all-set xs i (omega (arith, lt)) is h) ∙ and_regroups (f x) (list_all f xs) b

pub asked-there : (asked : List AskedDimension) (i : ℕ) (a : AskedDimension) (new : ValueTests) (place : Option ℕ) (more : List ℕ → Bool) → IsAskedAt asked i place → a ≡ get_or asked i a
    → ((value : List ℕ) → all_asked new value ≡ (all_asked a.tests value && more value)) → (dims : List (List ℕ)) → list_all (asked_at dims) (set asked i (record { place = a.place; tests = new })) ≡ (list_all (asked_at dims) asked && more (value_at place dims))
asked-there asked i a new place more at is adds dims =
    let here : a.place ≡ place = ap (λ (x : AskedDimension). x.place) is ∙ at.1 a in
    list_all-set (asked_at dims) a (record { place = a.place; tests = new }) (more (value_at place dims)) asked i at.0 is
    (adds (value_at a.place dims) ∙ ap (λ p. asked_at dims a && more (value_at p dims)) here)

-- a list of no members
pub nothing_left : {A : Type 0} (xs : List A) → length xs ≡ 0 → xs ≡ []
nothing_left [] h = refl
nothing_left (x ∷ xs) h = absurd (omega (arith, h))

-- what is asked of one text is asked of another just where that is the text
pub same_asked : (f : List ℕ → Bool) (text value : List ℕ) (b : Bool) → f text ≡ b → (bytes_eq value text && f value) ≡ (bytes_eq value text && b)
same_asked f text value b is = at (bytes_eq value text) refl
  where
    at : (e : Bool) → bytes_eq value text ≡ e → (e && f value) ≡ (e && b)
    at false h = refl
    at true h = ap f ((bytes_decides value text).0 h) ∙ is

-- one more text of which what is let through is kept
pub one_more_let : (old b lets among : Bool) → ((old || (b && lets)) || (among && lets)) ≡ (old || ((b || among) && lets))
one_more_let true b lets among = refl
one_more_let false true true among = refl
one_more_let false true false among = none among
  where
    none : (a : Bool) → (a && false) ≡ false
    none true = refl
    none false = refl
one_more_let false false lets among = refl

-- ---- one thing more is asked of a value

and_false : (b : Bool) → (b && false) ≡ false
and_false true = refl
and_false false = refl

-- in no more ranges
pub one_more_denied : (texts limits ranges more others : Bool) → ((texts && (limits && not (ranges || more))) && others) ≡ (((texts && (limits && not ranges)) && others) && not more)
one_more_denied false limits ranges more others = refl
one_more_denied true false ranges more others = refl
one_more_denied true true true more others = refl
one_more_denied true true false true others = sym (and_false others)
one_more_denied true true false false others = sym (and_true others)

-- each of some patterns, and one more
pub one_more_fit : (each more none others : Bool) → (((each && more) && none) && others) ≡ (((each && none) && others) && more)
one_more_fit false more none others = refl
one_more_fit true true none others = sym (and_true (none && others))
one_more_fit true false none others = sym (and_false (none && others))

-- none of some patterns, nor one more
pub one_more_none : (each some more others : Bool) → ((each && not (some || more)) && others) ≡ (((each && not some) && others) && not more)
one_more_none false some more others = refl
one_more_none true true more others = refl
one_more_none true false true others = sym (and_false others)
one_more_none true false false others = sym (and_true others)

-- in a narrower range
pub narrower : (texts within more no_texts no_ranges others : Bool) → ((texts && (((within && more) && no_texts) && no_ranges)) && others) ≡ (((texts && ((within && no_texts) && no_ranges)) && others) && more)
narrower texts within true no_texts no_ranges others =
    ap (λ w. (texts && ((w && no_texts) && no_ranges)) && others) (and_true within) ∙ sym (and_true ((texts && ((within && no_texts) && no_ranges)) && others))
narrower texts within false no_texts no_ranges others =
    ap (λ w. (texts && ((w && no_texts) && no_ranges)) && others) (and_false within) ∙ ap (λ t. t && others) (and_false texts) ∙ sym (and_false ((texts && ((within && no_texts) && no_ranges)) && others))

-- outside of no range
pub limits-moved : (within no_texts ranges : Bool) → (not no_texts && not (ranges || not within)) ≡ ((within && not no_texts) && not ranges)
limits-moved true true ranges = refl
limits-moved true false true = refl
limits-moved true false false = refl
limits-moved false true ranges = refl
limits-moved false false true = refl
limits-moved false false false = refl

-- one by one
pub all_put : (before texts within no_texts no_ranges others : Bool) → (((((before && texts) && within) && no_texts) && no_ranges) && others) ≡ (before && ((texts && ((within && no_texts) && no_ranges)) && others))
all_put false texts within no_texts no_ranges others = refl
all_put true false within no_texts no_ranges others = refl
all_put true true within no_texts no_ranges others = refl

pub three_put : (before each none others : Bool) → (((before && each) && none) && others) ≡ (before && ((each && none) && others))
three_put false each none others = refl
three_put true each none others = refl

-- what is denied of one, and of others
pub denied_with : (before one others : Bool) → ((before && not one) && not others) ≡ (before && not (one || others))
denied_with false one others = refl
denied_with true true others = refl
denied_with true false others = refl
