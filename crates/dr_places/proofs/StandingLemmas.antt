-- Sets of the places at which a piece stands.
use Rattle.std.proofs.Common.{◌≡◌, ◌≢◌, ◌∙◌, sym, refl, ap, ap₂, subst, ℕ, suc, ◌+◌, ◌-◌, ◌*◌, ◌/◌, ◌%◌, ◌^◌, ◌<◌, ◌≤◌, ◌==◌, ◌&&◌, Bool, true, false, List, length, get_or, drop, drop-drop, arith, Option, Some, None, MatchOption}
use Rattle.std.proofs.lemmas.List.{drop_all}
use Rattle.std.proofs.lemmas.Nat.{mod_below}
use Rattle.dr_like.specs.Like.{letter_fits}
use Rattle.dr_bits.proofs.BitLemmas.{bit-zero, bit-ones}
use Rattle.dr_places.specs.Places.{has_bit, truth_in, begins, fits_comb, AreStanding, HoldJust, IsKept}
use Rattle.dr_places.proofs.BeginLemmas.{any_letter, begins-next, one_fits}
use Rattle.dr_places.proofs.DigitLemmas.{bits-from}
use Rattle.dr_places.proofs.CombLemmas.{all_combs, comb-skipped, letter-behind, each-comb, some-comb}

-- the places at which the letters of so many combs fit
abbrev pub AreCombed : (words : List ℕ) (count combs place : ℕ) (piece text : List ℕ) → Type 0
AreCombed words count combs place piece text = (k : ℕ) → k < count → truth_in words k ≡ all_combs 63 combs piece (drop (place + k) text)

pub ones : (words : List ℕ) (k : ℕ) → get_or words (k / 64) 0 ≡ 2 ^ 64 - 1 → truth_in words k ≡ true
ones words k is = ap (λ w. has_bit w (k % 64)) is ∙ bit-ones (k % 64) (mod_below k 64 (omega arith))

pub all-ones : (count place : ℕ) (words piece text : List ℕ) → HoldJust count words → ((k : ℕ) → k < length words → get_or words k 0 ≡ 2 ^ 64 - 1) → AreCombed words count 0 place piece text
all-ones count place words piece text just full k lt = ones words k (full (k / 64) (omega (arith, lt, just.1)))

pub one-comb : (count combs place : ℕ) (before after piece text : List ℕ)
    → ((k : ℕ) → k < count → truth_in after k ≡ (truth_in before k && fits_comb 63 combs piece (drop (place + k) text)))
    → AreCombed before count combs place piece text → AreCombed after count (combs + 1) place piece text
one-comb count combs place before after piece text kept was k lt =
    let next : suc combs ≡ combs + 1 = omega arith in
    subst (λ n. truth_in after k ≡ all_combs 63 n piece (drop (place + k) text)) next
    (kept k lt ∙ ap (λ b. b && fits_comb 63 combs piece (drop (place + k) text)) (was k lt))

pub none-combed : (count combs place : ℕ) (words piece text : List ℕ) → combs ≤ 64 → ((k : ℕ) → get_or words k 0 ≡ 0) → AreCombed words count combs place piece text → AreStanding words count place piece text
none-combed count combs place words piece text le zeros was k lt =
    let none : truth_in words k ≡ false = ap (λ w. has_bit w (k % 64)) (zeros (k / 64)) ∙ bit-zero (k % 64) in
    none ∙ sym (some-comb combs piece (drop (place + k) text) le (sym (was k lt) ∙ none))

pub all-combed : (count combs place : ℕ) (words piece text : List ℕ) → combs ≤ 64 → (combs < 64 → length piece ≤ combs) → AreCombed words count combs place piece text → AreStanding words count place piece text
all-combed count combs place words piece text le long was k lt = was k lt ∙ each-comb combs piece (drop (place + k) text) le long

-- ---- one letter

pub letter-any : (letter c : ℕ) (b : Bool) → letter ≡ 95 → b ≡ (b && letter_fits letter c)
letter-any letter c b any = kept b ∙ ap (λ x. b && x) (sym (any_letter letter c any))
  where
    kept : (b : Bool) → b ≡ (b && true)
    kept true = refl
    kept false = refl

pub letter-one : (letter c : ℕ) (before after : Bool) → letter ≢ 95 → after ≡ (before && (c == letter)) → after ≡ (before && letter_fits letter c)
letter-one letter c before after one is = is ∙ ap (λ x. before && x) (sym (one_fits letter c one))

-- ---- the letters of a comb, from the last one on

pub no-letters : (b : Bool) (j x : ℕ) (piece text : List ℕ) → length piece ≤ j → b ≡ (b && fits_comb 63 0 (drop j piece) (drop x text))
no-letters b j x piece text le = kept b ∙ ap (λ l. b && fits_comb 63 0 l (drop x text)) (sym (drop_all j piece le))
  where
    kept : (b : Bool) → b ≡ (b && true)
    kept true = refl
    kept false = refl

pub one-letter : (first before after : Bool) (j x j' x' : ℕ) (piece text : List ℕ) → j < length piece → x < length text → j' ≡ j + 64 → x' ≡ x + 64
    → before ≡ (first && fits_comb 63 0 (drop j' piece) (drop x' text)) → after ≡ (before && letter_fits (get_or piece j 0) (get_or text x 0))
    → after ≡ (first && fits_comb 63 0 (drop j piece) (drop x text))
one-letter first before after j x j' x' piece text lt within next there was is =
    let far : j' ≡ j + 1 + 63 = omega (arith, next) in
    let away : x' ≡ x + 1 + 63 = omega (arith, there) in
    is ∙ ap (λ b. b && letter_fits (get_or piece j 0) (get_or text x 0)) (was ∙ ap (λ n. first && fits_comb 63 0 (drop n piece) (drop x' text)) far ∙ ap (λ n. first && fits_comb 63 0 (drop (j + 1 + 63) piece) (drop n text)) away)
    ∙ turned first (fits_comb 63 0 (drop (j + 1 + 63) piece) (drop (x + 1 + 63) text)) (letter_fits (get_or piece j 0) (get_or text x 0))
    ∙ ap (λ b. first && b) (sym (letter-behind 63 j x piece text lt within))
  where
    turned : (a b c : Bool) → ((a && b) && c) ≡ (a && (c && b))
    turned true true true = refl
    turned true true false = refl
    turned true false true = refl
    turned true false false = refl
    turned false b c = refl

-- ---- a comb

pub comb-kept : (words comb after piece text : List ℕ) (place first k : ℕ) → IsKept (get_or comb (k / 64) 0) (get_or comb (k / 64 + 1) 0) ((place + first) % 64) (get_or words (k / 64) 0) (get_or after (k / 64) 0)
    → truth_in comb ((place + first) % 64 + k) ≡ fits_comb 63 0 (drop first piece) (drop (64 * ((place + first) / 64) + ((place + first) % 64 + k)) text)
    → truth_in after k ≡ (truth_in words k && fits_comb 63 first piece (drop (place + k) text))
comb-kept words comb after piece text place first k kept told =
    let there : 64 * ((place + first) / 64) + ((place + first) % 64 + k) ≡ place + k + first = omega arith in
    kept (k % 64) (mod_below k 64 (omega arith))
    ∙ ap (λ b. truth_in words k && b) (bits-from comb ((place + first) % 64) k (mod_below (place + first) 64 (omega arith)) ∙ told
    ∙ ap (λ n. fits_comb 63 0 (drop first piece) (drop n text)) there ∙ ap (fits_comb 63 0 (drop first piece)) (sym (drop-drop first (place + k) text))
    ∙ sym (comb-skipped 63 first piece (drop (place + k) text)))

-- ---- letter by letter

-- the places at which so many of the first letters of the piece fit
abbrev pub AreLed : (words : List ℕ) (count first place : ℕ) (piece text : List ℕ) → Type 0
AreLed words count first place piece text = (k : ℕ) → k < count → (truth_in words k && begins (drop first piece) (drop (place + k + first) text)) ≡ begins piece (drop (place + k) text)

pub led-none : (count place : ℕ) (words piece text : List ℕ) → HoldJust count words → ((k : ℕ) → k < length words → get_or words k 0 ≡ 2 ^ 64 - 1) → AreLed words count 0 place piece text
led-none count place words piece text just full k lt =
    let here : place + k + 0 ≡ place + k = omega arith in
    ap (λ b. b && begins piece (drop (place + k + 0) text)) (ones words k (full (k / 64) (omega (arith, lt, just.1)))) ∙ ap (λ n. begins piece (drop n text)) here

pub led-more : (count first place : ℕ) (before after piece text : List ℕ) → first < length piece → ((k : ℕ) → k < count → place + first + k < length text)
    → ((k : ℕ) → k < count → truth_in after k ≡ (truth_in before k && letter_fits (get_or piece first 0) (get_or text (place + first + k) 0)))
    → AreLed before count first place piece text → AreLed after count (first + 1) place piece text
led-more count first place before after piece text lt within each was k less =
    let x = place + k + first in
    let there : place + first + k ≡ x = omega arith in
    let next : place + k + (first + 1) ≡ suc x = omega arith in
    let one : first + 1 ≡ suc first = omega arith in
    ap₂ (λ n m. truth_in after k && begins (drop n piece) (drop m text)) one next
    ∙ ap (λ b. b && begins (drop (suc first) piece) (drop (suc x) text)) (each k less ∙ ap (λ n. truth_in before k && letter_fits (get_or piece first 0) (get_or text n 0)) there)
    ∙ turned (truth_in before k) (letter_fits (get_or piece first 0) (get_or text x 0)) (begins (drop (suc first) piece) (drop (suc x) text))
    ∙ ap (λ b. truth_in before k && b) (sym (begins-next first x piece text lt (omega (arith, within k less)))) ∙ was k less
  where
    turned : (a b c : Bool) → ((a && b) && c) ≡ (a && (b && c))
    turned true b c = refl
    turned false b c = refl

pub led-all : (count first place : ℕ) (words piece text : List ℕ) → length piece ≤ first → AreLed words count first place piece text → AreStanding words count place piece text
led-all count first place words piece text le was k lt =
    kept (truth_in words k) ∙ ap (λ l. truth_in words k && begins l (drop (place + k + first) text)) (sym (drop_all first piece le)) ∙ was k lt
  where
    kept : (b : Bool) → b ≡ (b && true)
    kept true = refl
    kept false = refl

pub led-others : (count first place : ℕ) (words piece text : List ℕ) → AreLed words count first place piece text → (k : ℕ) → k < count → truth_in words k ≡ false → begins piece (drop (place + k) text) ≡ false
led-others count first place words piece text was k lt none = sym (was k lt) ∙ ap (λ b. b && begins (drop first piece) (drop (place + k + first) text)) none

pub led-nowhere : (count first place : ℕ) (words piece text : List ℕ) → ((k : ℕ) → get_or words k 0 ≡ 0) → AreLed words count first place piece text → AreStanding words count place piece text
led-nowhere count first place words piece text zeros was k lt =
    let none : truth_in words k ≡ false = ap (λ w. has_bit w (k % 64)) (zeros (k / 64)) ∙ bit-zero (k % 64) in
    none ∙ ap (λ b. b && begins (drop first piece) (drop (place + k + first) text)) (sym none) ∙ was k lt

-- ---- the first place

-- the first place of a set is the first at which the piece stands
pub first-standing : (count place : ℕ) (words piece text : List ℕ) (found : Option ℕ) → AreStanding words count place piece text
    → MatchOption found ((k : ℕ) → 0 ≤ k → k < count → truth_in words k ≡ false) (λ b. (0 ≤ b) × (b < count) × (truth_in words b ≡ true) × ((k : ℕ) → 0 ≤ k → k < b → truth_in words k ≡ false))
    → MatchOption found ((k : ℕ) → k < count → begins piece (drop (place + k) text) ≡ false)
    (λ b. (b < count) × (begins piece (drop (place + b) text) ≡ true) × ((k : ℕ) → k < b → begins piece (drop (place + k) text) ≡ false))
first-standing count place words piece text None standing is = λ k lt. sym (standing k lt) ∙ is k (omega arith) lt
first-standing count place words piece text (Some b) standing is = (is.1, sym (standing b is.1) ∙ is.2, λ k lt. sym (standing k (omega (arith, lt, is.1))) ∙ is.3 k (omega arith) lt)
