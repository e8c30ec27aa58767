-- Patterns by their pieces.
use Rattle.std.proofs.Common.{inl, inr, ◌≡◌, ◌≢◌, ◌∙◌, sym, refl, ap, subst, ℕ, zero, suc, ◌+◌, ◌-◌, ◌<◌, ◌≤◌, ◌==◌, ◌&&◌, ◌||◌, Bool, true, false, List, [], ◌∷◌, ◌++◌, length, get_or, take, drop, map, replicate, nat_eq, arith}
use Rattle.std.specs.Str.{chars}
use Rattle.std.proofs.lemmas.Bool.{cases_lt}
use Rattle.std.proofs.lemmas.List.{length-drop, length-replicate, get_or-replicate, take_more, append_assoc, append-nil}
use Rattle.dr_like.specs.Like.{fits, is_empty, letter_fits, first_and_rest}
use Rattle.dr_like.proofs.Runs.{same_behind, two_runs}
use Rattle.dr_rowindex.specs.Orders.{Tell}
use Rattle.dr_rowindex.specs.Truths.{Joined}
use Rattle.dr_letters.specs.declared.asked_letter.AskedLetter.{AskedLetter}
use Rattle.dr_letters.specs.Codes.{Keeps}
use Rattle.dr_letters.specs.States.{fits_from, is_short, left_fits, letters}
use Rattle.dr_letters.specs.declared.piece.Piece.{Piece}
use Rattle.dr_letters.specs.Pieces.{asks, asks_each, AreAlike, AreAsked, Gains, IsPiece, Meets, MeetsTwo, runs}
use Rattle.dr_letters.proofs.StateLemmas.{letter_before, gap_before, letters-append, tell-alike}

and_true : (b : Bool) → b ≡ (b && true)
and_true true = refl
and_true false = refl

and_never : (b : Bool) → (b && false) ≡ false
and_never true = refl
and_never false = refl

or_false : (b : Bool) → b ≡ (b || false)
or_false true = refl
or_false false = refl

grouped : (a b c : Bool) → ((a && b) && c) ≡ (a && (b && c))
grouped true b c = refl
grouped false b c = refl

-- ---- letters that are asked

pub asks-more : (spare : ℕ) (asked : List AskedLetter) (a : AskedLetter) (text : List ℕ) → asks_each spare (asked ++ a ∷ []) text ≡ (asks_each spare asked text && asks spare a text)
asks-more spare [] a text = sym (and_true (asks spare a text))
asks-more spare (b ∷ asked) a text = ap (λ x. asks spare b text && x) (asks-more spare asked a text) ∙ sym (grouped (asks spare b text) (asks_each spare asked text) (asks spare a text))

-- the first so many, and the next
pub asks-next : (spare : ℕ) (asked : List AskedLetter) (k : ℕ) (a : AskedLetter) (text : List ℕ) → k < length asked
    → asks_each spare (take (k + 1) asked) text ≡ (asks_each spare (take k asked) text && asks spare (get_or asked k a) text)
asks-next spare asked k a text lt = ap (λ l. asks_each spare l text) (take_more asked k a lt) ∙ asks-more spare (take k asked) (get_or asked k a) text

-- a text that lacks one lacks them together
pub asks-none : (spare : ℕ) (asked : List AskedLetter) (k : ℕ) (a : AskedLetter) (text : List ℕ) → k < length asked → asks spare (get_or asked k a) text ≡ false → asks_each spare asked text ≡ false
asks-none spare [] k a text lt fails = absurd (omega (arith, lt))
asks-none spare (b ∷ asked) zero a text lt fails = ap (λ x. x && asks_each spare asked text) fails
asks-none spare (b ∷ asked) (suc k) a text lt fails = ap (λ x. asks spare b text && x) (asks-none spare asked k a text (omega (arith, lt)) fails) ∙ and_never (asks spare b text)

-- a text that lacks one of the first so many
pub asks-longer : (spare : ℕ) (asked : List AskedLetter) (k : ℕ) (text : List ℕ) → asks_each spare (take k asked) text ≡ false → asks_each spare asked text ≡ false
asks-longer spare asked zero text fails = absurd (cc fails)
asks-longer spare [] (suc k) text fails = absurd (cc fails)
asks-longer spare (a ∷ asked) (suc k) text fails = at (λ less. asks-longer spare asked k text less) (asks spare a text) refl
  where
    at : (asks_each spare (take k asked) text ≡ false → asks_each spare asked text ≡ false) → (b : Bool) → asks spare a text ≡ b → (b && asks_each spare asked text) ≡ false
    at longer false is = refl
    at longer true is = longer (sym (ap (λ x. x && asks_each spare (take k asked) text) is) ∙ fails)

pub keeps-none : (spare : ℕ) (texts : List (List ℕ)) (before : List Bool) → length before ≡ length texts → Keeps (asks_each spare []) texts before before
keeps-none spare texts before long = record { count = refl; each = λ i t lt. and_true (get_or before i false) }

pub keeps-next : (spare : ℕ) (asked : List AskedLetter) (k : ℕ) (a : AskedLetter) (texts : List (List ℕ)) (before between after : List Bool) → k < length asked
    → Keeps (asks_each spare (take k asked)) texts before between → Keeps (asks spare (get_or asked k a)) texts between after → Keeps (asks_each spare (take (k + 1) asked)) texts before after
keeps-next spare asked k a texts before between after lt first second = record {
  count = second.count ∙ first.count;
  each = λ i t within. second.each i t within ∙ ap (λ b. b && asks spare (get_or asked k a) (get_or texts i t)) (first.each i t within)
      ∙ grouped (get_or before i false) (asks_each spare (take k asked) (get_or texts i t)) (asks spare (get_or asked k a) (get_or texts i t))
      ∙ ap (λ b. get_or before i false && b) (sym (asks-next spare asked k a (get_or texts i t) lt));
}

-- four letters at once
module _ (spare : ℕ) (asked : List AskedLetter) (k : ℕ) (d : AskedLetter) (text : List ℕ) (within : k + 4 ≤ length asked) where
  step : (n m : ℕ) → n < length asked → n + 1 ≡ m → (b : Bool) → ((b && asks_each spare (take n asked) text) && asks spare (get_or asked n d) text) ≡ (b && asks_each spare (take m asked) text)
  step n m lt next b = grouped b (asks_each spare (take n asked) text) (asks spare (get_or asked n d) text) ∙ ap (λ x. b && x) (sym (asks-next spare asked n d text lt)) ∙ ap (λ j. b && asks_each spare (take j asked) text) next

  pub asks-four : (b : Bool)
      → (((((b && asks_each spare (take k asked) text) && asks spare (get_or asked k d) text) && asks spare (get_or asked (k + 1) d) text) && asks spare (get_or asked (k + 2) d) text) && asks spare (get_or asked (k + 3) d) text)
      ≡ (b && asks_each spare (take (k + 4) asked) text)
  asks-four b =
      ap (λ x. ((x && asks spare (get_or asked (k + 1) d) text) && asks spare (get_or asked (k + 2) d) text) && asks spare (get_or asked (k + 3) d) text) (step k (k + 1) (omega (arith, within)) refl b)
      ∙ ap (λ x. (x && asks spare (get_or asked (k + 2) d) text) && asks spare (get_or asked (k + 3) d) text) (step (k + 1) (k + 2) (omega (arith, within)) (omega arith) b)
      ∙ ap (λ x. x && asks spare (get_or asked (k + 3) d) text) (step (k + 2) (k + 3) (omega (arith, within)) (omega arith) b)
      ∙ step (k + 3) (k + 4) (omega (arith, within)) (omega arith) b

pub keeps-four : (spare : ℕ) (asked : List AskedLetter) (k : ℕ) (d : AskedLetter) (texts : List (List ℕ)) (sa sb sc sd before between after : List Bool) → k + 4 ≤ length asked → length between ≡ length texts
    → Tell (asks spare (get_or asked k d)) texts sa → Tell (asks spare (get_or asked (k + 1) d)) texts sb → Tell (asks spare (get_or asked (k + 2) d)) texts sc → Tell (asks spare (get_or asked (k + 3) d)) texts sd
    → length after ≡ length between → ((i : ℕ) → i < length between → get_or after i false ≡ ((((get_or between i false && get_or sa i false) && get_or sb i false) && get_or sc i false) && get_or sd i false))
    → Keeps (asks_each spare (take k asked)) texts before between → Keeps (asks_each spare (take (k + 4) asked)) texts before after
keeps-four spare asked k d texts sa sb sc sd before between after within rows ta tb tc td count each was = record {
  count = count ∙ was.count;
  each = λ i t lt.
      let x = get_or texts i t in
      each i (omega (arith, lt, rows))
      ∙ ap (λ b. (((b && get_or sa i false) && get_or sb i false) && get_or sc i false) && get_or sd i false) (was.each i t lt)
      ∙ ap (λ b. ((((get_or before i false && asks_each spare (take k asked) x) && b) && get_or sb i false) && get_or sc i false) && get_or sd i false) (ta.each i t lt)
      ∙ ap (λ b. ((((get_or before i false && asks_each spare (take k asked) x) && asks spare (get_or asked k d) x) && b) && get_or sc i false) && get_or sd i false) (tb.each i t lt)
      ∙ ap (λ b. ((((get_or before i false && asks_each spare (take k asked) x) && asks spare (get_or asked k d) x) && asks spare (get_or asked (k + 1) d) x) && b) && get_or sd i false) (tc.each i t lt)
      ∙ ap (λ b. ((((get_or before i false && asks_each spare (take k asked) x) && asks spare (get_or asked k d) x) && asks spare (get_or asked (k + 1) d) x) && asks spare (get_or asked (k + 2) d) x) && b) (td.each i t lt)
      ∙ asks-four spare asked k d x within (get_or before i false);
}

-- where none is left, none has the next letters
pub keeps-nothing : (spare : ℕ) (asked : List AskedLetter) (k : ℕ) (texts : List (List ℕ)) (before after : List Bool) → ((i : ℕ) → get_or after i false ≡ false) → Keeps (asks_each spare (take k asked)) texts before after → Keeps (asks_each spare asked) texts before after
keeps-nothing spare asked k texts before after none was = record {
  count = was.count;
  each = λ i t lt. none i ∙ fewer (get_or before i false) (get_or texts i t) (sym (was.each i t lt) ∙ none i);
}
  where
    fewer : (b : Bool) (x : List ℕ) → (b && asks_each spare (take k asked) x) ≡ false → false ≡ (b && asks_each spare asked x)
    fewer false x fails = refl
    fewer true x fails = sym (asks-longer spare asked k x fails)

-- ---- texts that are found

pub gains-kept : (test : List ℕ → Bool) (texts : List (List ℕ)) (behind set before after : List Bool) → length behind ≡ length texts → length before ≡ length texts
    → Keeps test texts behind set → Joined (λ a b. a || b) set before after → Gains test texts behind before after
gains-kept test texts behind set before after long rows keeps joined = record {
  count = joined.count;
  each = λ i t lt. joined.each i (omega (arith, lt, rows)) ∙ ap (λ b. get_or before i false || b) (keeps.each i t lt);
}

pub gains-none : (test : List ℕ → Bool) (texts : List (List ℕ)) (behind before : List Bool) → ((i : ℕ) (t : List ℕ) → i < length texts → test (get_or texts i t) ≡ false) → Gains test texts behind before before
gains-none test texts behind before fails = record {
  count = refl;
  each = λ i t lt. or_false (get_or before i false) ∙ ap (λ b. get_or before i false || b) (sym (ap (λ b. get_or behind i false && b) (fails i t lt) ∙ and_never (get_or behind i false)));
}

pub gains-behind-none : (test : List ℕ → Bool) (texts : List (List ℕ)) (behind before : List Bool) → ((i : ℕ) → get_or behind i false ≡ false) → Gains test texts behind before before
gains-behind-none test texts behind before none = record {
  count = refl;
  each = λ i t lt. or_false (get_or before i false) ∙ ap (λ b. get_or before i false || (b && test (get_or texts i t))) (sym (none i));
}

-- the first letters, and those behind them
pub asks-apart : (spare : ℕ) (asked : List AskedLetter) (k : ℕ) (text : List ℕ) → asks_each spare asked text ≡ (asks_each spare (take k asked) text && asks_each spare (drop k asked) text)
asks-apart spare asked zero text = refl
asks-apart spare [] (suc k) text = refl
asks-apart spare (a ∷ asked) (suc k) text = ap (λ b. asks spare a text && b) (asks-apart spare asked k text) ∙ sym (grouped (asks spare a text) (asks_each spare (take k asked) text) (asks_each spare (drop k asked) text))

take_all : (asked : List AskedLetter) (n : ℕ) → length asked ≤ n → take n asked ≡ asked
take_all [] zero le = refl
take_all [] (suc n) le = refl
take_all (a ∷ asked) zero le = absurd (omega (arith, le))
take_all (a ∷ asked) (suc n) le = ap (λ l. a ∷ l) (take_all asked n (omega (arith, le)))

-- the letters from a place on
pub those-behind : (asked : List AskedLetter) (k : ℕ) → take (length asked - k) (drop k asked) ≡ drop k asked
those-behind asked k = take_all (drop k asked) (length asked - k) (omega (arith, length-drop k asked))

pub gains-later : (spare : ℕ) (asked : List AskedLetter) (k : ℕ) (texts : List (List ℕ)) (behind set before after : List Bool) → Keeps (asks_each spare (take k asked)) texts behind set
    → Gains (asks_each spare (drop k asked)) texts set before after → Gains (asks_each spare asked) texts behind before after
gains-later spare asked k texts behind set before after keeps gains = record {
  count = gains.count;
  each = λ i t lt.
      let x = get_or texts i t in
      gains.each i t lt ∙ ap (λ b. get_or before i false || (b && asks_each spare (drop k asked) x)) (keeps.each i t lt)
      ∙ ap (λ b. get_or before i false || b) (grouped (get_or behind i false) (asks_each spare (take k asked) x) (asks_each spare (drop k asked) x) ∙ ap (λ b. get_or behind i false && b) (sym (asks-apart spare asked k x)));
}

-- ---- few letters

-- one or two
pub asks-two : (spare : ℕ) (asked : List AskedLetter) (x : AskedLetter) (text : List ℕ) → 0 < length asked → length asked ≤ 2
    → asks_each spare asked text ≡ (asks spare (get_or asked 0 x) text && asks spare (get_or asked (length asked - 1) x) text)
asks-two spare [] x text some few = absurd (omega (arith, some))
asks-two spare (p ∷ []) x text some few = same (asks spare p text)
  where
    same : (e : Bool) → (e && true) ≡ (e && e)
    same true = refl
    same false = refl
asks-two spare (p ∷ q ∷ []) x text some few = ap (λ e. asks spare p text && e) (sym (and_true (asks spare q text)))
asks-two spare (p ∷ q ∷ r ∷ more) x text some few = absurd (omega (arith, few))

-- three or four
pub asks-three : (spare : ℕ) (asked : List AskedLetter) (x : AskedLetter) (text : List ℕ) → 3 ≤ length asked → length asked ≤ 4
    → asks_each spare asked text ≡ (((asks spare (get_or asked 0 x) text && asks spare (get_or asked 1 x) text) && asks spare (get_or asked 2 x) text) && asks spare (get_or asked (length asked - 1) x) text)
asks-three spare [] x text some few = absurd (omega (arith, some))
asks-three spare (p ∷ []) x text some few = absurd (omega (arith, some))
asks-three spare (p ∷ q ∷ []) x text some few = absurd (omega (arith, some))
asks-three spare (p ∷ q ∷ r ∷ []) x text some few = same (asks spare p text) (asks spare q text) (asks spare r text)
  where
    same : (e f g : Bool) → (e && (f && (g && true))) ≡ (((e && f) && g) && g)
    same true true true = refl
    same true true false = refl
    same true false g = refl
    same false f g = refl
asks-three spare (p ∷ q ∷ r ∷ s ∷ []) x text some few = same (asks spare p text) (asks spare q text) (asks spare r text) (asks spare s text)
  where
    same : (e f g h : Bool) → (e && (f && (g && (h && true)))) ≡ (((e && f) && g) && h)
    same true true true true = refl
    same true true true false = refl
    same true true false h = refl
    same true false g h = refl
    same false f g h = refl
asks-three spare (p ∷ q ∷ r ∷ s ∷ t ∷ more) x text some few = absurd (omega (arith, few))

pub meets-two : (spare : ℕ) (asked : List AskedLetter) (x y : AskedLetter) (texts : List (List ℕ)) (a b : List Bool) → 0 < length asked → length asked ≤ 2
    → x ≡ get_or asked 0 x → y ≡ get_or asked (length asked - 1) x → Tell (asks spare x) texts a → Tell (asks spare y) texts b → MeetsTwo (asks_each spare asked) texts a b
meets-two spare asked x y texts a b some few is_x is_y in_a in_b = record {
  counts = (in_a.count, in_b.count);
  each = λ i t lt.
      let z = get_or texts i t in
      asks-two spare asked x z some few ∙ ap (λ k. asks spare k z && asks spare (get_or asked (length asked - 1) x) z) (sym is_x) ∙ ap (λ k. asks spare x z && asks spare k z) (sym is_y)
      ∙ ap (λ e. e && asks spare y z) (sym (in_a.each i t lt)) ∙ ap (λ e. get_or a i false && e) (sym (in_b.each i t lt));
}

pub meets-four : (spare : ℕ) (asked : List AskedLetter) (x y z w : AskedLetter) (texts : List (List ℕ)) (a b c d : List Bool) → 3 ≤ length asked → length asked ≤ 4
    → x ≡ get_or asked 0 x → y ≡ get_or asked 1 x → z ≡ get_or asked 2 x → w ≡ get_or asked (length asked - 1) x
    → Tell (asks spare x) texts a → Tell (asks spare y) texts b → Tell (asks spare z) texts c → Tell (asks spare w) texts d → Meets (asks_each spare asked) texts a b c d
meets-four spare asked x y z w texts a b c d some few is_x is_y is_z is_w in_a in_b in_c in_d = record {
  counts = (in_a.count, (in_b.count, (in_c.count, in_d.count)));
  each = λ i t lt.
      let v = get_or texts i t in
      let at : AskedLetter → Bool = λ k. asks spare k v in
      asks-three spare asked x v some few
      ∙ ap (λ k. ((at k && at (get_or asked 1 x)) && at (get_or asked 2 x)) && at (get_or asked (length asked - 1) x)) (sym is_x)
      ∙ ap (λ k. ((at x && at k) && at (get_or asked 2 x)) && at (get_or asked (length asked - 1) x)) (sym is_y)
      ∙ ap (λ k. ((at x && at y) && at k) && at (get_or asked (length asked - 1) x)) (sym is_z)
      ∙ ap (λ k. ((at x && at y) && at z) && at k) (sym is_w)
      ∙ ap (λ e. ((e && at y) && at z) && at w) (sym (in_a.each i t lt))
      ∙ ap (λ e. ((get_or a i false && e) && at z) && at w) (sym (in_b.each i t lt))
      ∙ ap (λ e. ((get_or a i false && get_or b i false) && e) && at w) (sym (in_c.each i t lt))
      ∙ ap (λ e. ((get_or a i false && get_or b i false) && get_or c i false) && e) (sym (in_d.each i t lt));
}

pub gains-two : (test : List ℕ → Bool) (texts : List (List ℕ)) (behind a b before after : List Bool) → MeetsTwo test texts a b → length before ≡ length texts → length after ≡ length before
    → ((i : ℕ) → i < length before → get_or after i false ≡ (get_or before i false || ((get_or behind i false && get_or a i false) && get_or b i false)))
    → Gains test texts behind before after
gains-two test texts behind a b before after meets rows count each = record {
  count = count;
  each = λ i t lt. each i (omega (arith, lt, rows)) ∙ ap (λ e. get_or before i false || e) (grouped (get_or behind i false) (get_or a i false) (get_or b i false)
      ∙ ap (λ e. get_or behind i false && e) (sym (meets.each i t lt)));
}

pub gains-met : (test : List ℕ → Bool) (texts : List (List ℕ)) (behind a b c d before after : List Bool) → Meets test texts a b c d → length before ≡ length texts → length after ≡ length before
    → ((i : ℕ) → i < length before → get_or after i false ≡ (get_or before i false || ((((get_or behind i false && get_or a i false) && get_or b i false) && get_or c i false) && get_or d i false)))
    → Gains test texts behind before after
gains-met test texts behind a b c d before after meets rows count each = record {
  count = count;
  each = λ i t lt. each i (omega (arith, lt, rows)) ∙ ap (λ e. get_or before i false || e) (grouped (get_or behind i false) (get_or a i false) (get_or b i false) (get_or c i false) (get_or d i false)
      ∙ ap (λ e. get_or behind i false && e) (sym (meets.each i t lt)));
}
  where
    grouped : (e f g h k : Bool) → ((((e && f) && g) && h) && k) ≡ (e && (((f && g) && h) && k))
    grouped true f g h k = refl
    grouped false f g h k = refl

-- ---- a piece, letter by letter from its last on

-- nothing of it yet
pub asked-none : (from : ℕ) (is_last : Bool) → AreAsked [] from is_last []
asked-none from is_last asked behind spare place t some is =
    let here : place ≡ place + 0 = omega arith in
    ap (λ p. fits_from asked behind p t) here ∙ and_true (fits_from asked behind (place + 0) t)

-- one letter more
pub asked-more : (letter : ℕ) (part : List ℕ) (from : ℕ) (is_last : Bool) (before : List AskedLetter) (a : AskedLetter) → (letter == 37) ≡ false → a.place ≡ from → a.letter ≡ letter
    → AreAsked part (from + 1) is_last before → AreAsked (letter ∷ part) from is_last (before ++ a ∷ [])
asked-more letter part from is_last before a one at is was asked behind spare place t some same =
    let next : place + 1 + length part ≡ place + suc (length part) = omega arith in
    let back : place ≡ from - spare = omega (arith, same) in
    let here : asks spare a t ≡ first_and_rest (letter_fits letter) (λ more. true) (drop place (chars t)) =
    ap (λ n. first_and_rest (letter_fits a.letter) (λ more. true) (drop (n - spare) (chars t))) at ∙ ap (λ l. first_and_rest (letter_fits l) (λ more. true) (drop (from - spare) (chars t))) is
    ∙ ap (λ p. first_and_rest (letter_fits letter) (λ more. true) (drop p (chars t))) (sym back) in
    sym (letter_before asked (part ++ behind) t letter place one)
    ∙ ap (λ b. b && first_and_rest (letter_fits letter) (λ more. true) (drop place (chars t))) (was asked behind spare (place + 1) t some (omega (arith, same)))
    ∙ grouped (fits_from asked behind (place + 1 + length part) t) (asks_each spare before t) (first_and_rest (letter_fits letter) (λ more. true) (drop place (chars t)))
    ∙ ap (λ p. fits_from asked behind p t && (asks_each spare before t && first_and_rest (letter_fits letter) (λ more. true) (drop place (chars t)))) next
    ∙ ap (λ b. fits_from asked behind (place + suc (length part)) t && b) (ap (λ b. asks_each spare before t && b) (sym here) ∙ sym (asks-more spare before a t))

-- a `_` that isn't asked, since a later letter is
pub asked-gap : (part : List ℕ) (from : ℕ) (is_last : Bool) (before : List AskedLetter) → (is_last ≡ true → 0 < letters part) → AreAsked part (from + 1) is_last before → AreAsked (95 ∷ part) from is_last before
asked-gap part from is_last before needed was asked behind spare place t some same =
    let next : place + 1 + length part ≡ place + suc (length part) = omega arith in
    sym (gap_before asked (part ++ behind) t place (more is_last refl)) ∙ was asked behind spare (place + 1) t some (omega (arith, same))
    ∙ ap (λ p. fits_from asked behind p t && asks_each spare before t) next
  where
    more : (b : Bool) → is_last ≡ b → 0 < letters (part ++ behind)
    more true is = omega (arith, needed is, letters-append part behind)
    more false is = omega (arith, some is, letters-append part behind)

-- ---- runs and pieces

pub runs-more : (pieces : List (List ℕ)) (p : List ℕ) → runs (pieces ++ p ∷ []) ≡ runs pieces ++ 37 ∷ p
runs-more [] p = ap (λ l. 37 ∷ l) (append-nil p)
runs-more (q ∷ pieces) p = ap (λ l. 37 ∷ q ++ l) (runs-more pieces p) ∙ ap (λ l. 37 ∷ l) (sym (append_assoc q (runs pieces) (37 ∷ p)))

pub pieces-more : {X : Type 0} (seen : X → List ℕ) (pieces : List X) (p : X) → runs (map seen (pieces ++ p ∷ [])) ≡ runs (map seen pieces) ++ 37 ∷ seen p
pieces-more {X = X} seen pieces p = ap runs (mapped pieces) ∙ runs-more (map seen pieces) (seen p)
  where
    mapped : (ps : List X) → map seen (ps ++ p ∷ []) ≡ map seen ps ++ seen p ∷ []
    mapped [] = refl
    mapped (q ∷ ps) = ap (λ l. seen q ∷ l) (mapped ps)

-- a piece stands before the later ones
pub runs-at : (pieces : List (List ℕ)) (k : ℕ) (p : List ℕ) → k < length pieces → runs (drop k pieces) ≡ 37 ∷ get_or pieces k p ++ runs (drop (k + 1) pieces)
runs-at [] k p lt = absurd (omega (arith, lt))
runs-at (q ∷ pieces) zero p lt = refl
runs-at (q ∷ pieces) (suc k) p lt =
    let next : suc (k + 1) ≡ suc k + 1 = omega arith in
    runs-at pieces k p (omega (arith, lt)) ∙ ap (λ n. 37 ∷ get_or pieces k p ++ runs (drop n (q ∷ pieces))) next

-- the later pieces have no more letters
pub letters-later : (pieces : List (List ℕ)) (k : ℕ) → letters (runs (drop k pieces)) ≤ letters (runs pieces)
letters-later pieces zero = omega arith
letters-later [] (suc k) = omega arith
letters-later (q ∷ pieces) (suc k) = let rest = letters-later pieces k in omega (arith, rest, letters-append q (runs pieces))

pub letters-at : (pieces : List (List ℕ)) (k : ℕ) (p : List ℕ) → k < length pieces → letters (runs (drop k pieces)) ≡ letters (get_or pieces k p) + letters (runs (drop (k + 1) pieces))
letters-at pieces k p lt = ap letters (runs-at pieces k p lt) ∙ letters-append (get_or pieces k p) (runs (drop (k + 1) pieces))

pub some-letters : (cs : List ℕ) → is_empty cs ≡ false → 0 < length cs
some-letters [] some = absurd (cc some)
some-letters (c ∷ cs) some = omega arith

-- ---- patterns that fit the same

pub alike-same : (p q : List ℕ) → p ≡ q → AreAlike p q
alike-same p q same = record { letters = ap letters same; fits = λ cs. ap (λ r. fits r cs) same }

pub alike-then : (p q r : List ℕ) → AreAlike p q → AreAlike q r → AreAlike p r
alike-then p q r first second = record { letters = first.letters ∙ second.letters; fits = λ cs. first.fits cs ∙ second.fits cs }

pub alike-run : (start pattern : List ℕ) → AreAlike (start ++ 37 ∷ pattern) (start ++ 37 ∷ 37 ∷ pattern)
alike-run start pattern = record {
  letters = letters-append start (37 ∷ pattern) ∙ sym (letters-append start (37 ∷ 37 ∷ pattern));
  fits = same_behind start (37 ∷ pattern) (37 ∷ 37 ∷ pattern) (two_runs pattern);
}

-- the same texts are told of
pub alike-tell : (places place : ℕ) (some others : List ℕ) (texts : List (List ℕ)) (told : List Bool) → AreAlike some others → Tell (left_fits places some place) texts told → Tell (left_fits places others place) texts told
alike-tell places place some others texts told alike was =
    tell-alike (left_fits places some place) (left_fits places others place) texts told (λ t. ap (λ b. is_short places t && b) (alike.fits (drop place (chars t)))) was

-- ---- a start

module _ (asked : List ℕ → Bool) (start pattern : List ℕ) (count : ℕ) (piece : Piece) (is : IsPiece start count true piece) (long : count ≡ length start) where
  at_start : (t : List ℕ) → fits_from asked (start ++ pattern) 0 t ≡ (fits_from asked pattern count t && asks_each 0 piece.letters.items t)
  at_start t = is.asks asked pattern 0 0 t (λ e. absurd (cc e)) (omega (arith, is.from, long)) ∙ ap (λ k. fits_from asked pattern k t && asks_each 0 piece.letters.items t) (omega (arith, long))

  pub start-kept : (texts : List (List ℕ)) (told after : List Bool) → Keeps (asks_each 0 piece.letters.items) texts told after → Tell (fits_from asked pattern count) texts told → Tell (fits_from asked (start ++ pattern) 0) texts after
  start-kept texts told after keeps was = record {
    count = keeps.count ∙ was.count;
    each = λ i t lt. keeps.each i t lt ∙ ap (λ b. b && asks_each 0 piece.letters.items (get_or texts i t)) (was.each i t lt) ∙ sym (at_start (get_or texts i t));
  }

  pub start-none : (texts : List (List ℕ)) (n : ℕ) (none : List Bool) → n ≡ length texts → none ≡ replicate n false → ((i : ℕ) (t : List ℕ) → i < length texts → asks_each 0 piece.letters.items (get_or texts i t) ≡ false)
      → Tell (fits_from asked (start ++ pattern) 0) texts none
  start-none texts n none rows is' fails = record {
    count = ap length is' ∙ length-replicate n false ∙ rows;
    each = λ i t lt. ap (λ l. get_or l i false) is' ∙ get_or-replicate n i false false (omega (arith, lt, rows))
        ∙ sym (at_start (get_or texts i t) ∙ ap (λ b. fits_from asked pattern count (get_or texts i t) && b) (fails i t lt) ∙ and_never (fits_from asked pattern count (get_or texts i t)));
  }

-- ---- one text after another

-- of the first so many texts it was told which are added
pub record GainsTo (row : ℕ) (test : List ℕ → Bool) (texts : List (List ℕ)) (set before after : List Bool) : Type 0 where
  pub count : length after ≡ length before
  pub each : (i : ℕ) (t : List ℕ) → i < row → i < length texts → get_or after i false ≡ (get_or before i false || (get_or set i false && test (get_or texts i t)))
  pub others : (i : ℕ) → row ≤ i → get_or after i false ≡ get_or before i false

pub gains-to-none : (test : List ℕ → Bool) (texts : List (List ℕ)) (set before : List Bool) → GainsTo 0 test texts set before before
gains-to-none test texts set before = record { count = refl; each = λ i t lt within. absurd (omega (arith, lt)); others = λ i le. refl }

pub gains-to-more : (row next : ℕ) (test : List ℕ → Bool) (texts : List (List ℕ)) (set before between after : List Bool) (told : Bool) → row ≤ next → get_or set next false ≡ true
    → ((j : ℕ) → row ≤ j → j < next → get_or set j false ≡ false) → ((t : List ℕ) → told ≡ test (get_or texts next t)) → length after ≡ length between
    → get_or after next false ≡ (get_or between next false || told) → ((i : ℕ) → i ≢ next → get_or after i false ≡ get_or between i false)
    → GainsTo row test texts set before between → GainsTo (next + 1) test texts set before after
gains-to-more row next test texts set before between after told le here none is long one same was = record {
  count = long ∙ was.count;
  each = λ i t lt within. elim (cases_lt i row) [
    | inl less ↦ same i (λ e. absurd (omega (arith, less, le, e))) ∙ was.each i t less within
    | inr more ↦ elim (cases_lt i next) [
      | inl less ↦ same i (λ e. absurd (omega (arith, less, e))) ∙ was.others i more ∙ or_false (get_or before i false) ∙ ap (λ b. get_or before i false || (b && test (get_or texts i t))) (sym (none i more less))
      | inr past ↦ (let last : next ≡ i = omega (arith, lt, past) in
          subst (λ n. get_or after n false ≡ (get_or before n false || (get_or set n false && test (get_or texts n t)))) last
          (one ∙ ap (λ b. b || told) (was.others next le) ∙ ap (λ b. get_or before next false || b) (is t ∙ ap (λ b. b && test (get_or texts next t)) (sym here))))
    ]
  ];
  others = λ i past. same i (λ e. absurd (omega (arith, past, e))) ∙ was.others i (omega (arith, past, le));
}

pub gains-to-all : (row : ℕ) (test : List ℕ → Bool) (texts : List (List ℕ)) (set before after : List Bool) → ((k : ℕ) → row ≤ k → get_or set k false ≡ false) → GainsTo row test texts set before after → Gains test texts set before after
gains-to-all row test texts set before after none was = record {
  count = was.count;
  each = λ i t lt. elim (cases_lt i row) [
    | inl less ↦ was.each i t less lt
    | inr more ↦ was.others i more ∙ or_false (get_or before i false) ∙ ap (λ b. get_or before i false || (b && test (get_or texts i t))) (sym (none i more))
  ];
}

-- ---- one letter of one text

pub stands-at : (letter place : ℕ) (cs : List ℕ) → place < length cs → letter_fits letter (get_or cs place 0) ≡ first_and_rest (letter_fits letter) (λ more. true) (drop place cs)
stands-at letter place [] lt = absurd (omega (arith, lt))
stands-at letter zero (c ∷ cs) lt = and_true (letter_fits letter c)
stands-at letter (suc place) (c ∷ cs) lt = stands-at letter place cs (omega (arith, lt))

pub stands-past : (letter place : ℕ) (cs : List ℕ) → length cs ≤ place → false ≡ first_and_rest (letter_fits letter) (λ more. true) (drop place cs)
stands-past letter zero [] le = refl
stands-past letter (suc place) [] le = refl
stands-past letter zero (c ∷ cs) le = absurd (omega (arith, le))
stands-past letter (suc place) (c ∷ cs) le = stands-past letter place cs (omega (arith, le))

pub stands-any : (letter place : ℕ) (cs : List ℕ) → letter ≡ 95 → place < length cs → nat_eq letter 95 ≡ first_and_rest (letter_fits letter) (λ more. true) (drop place cs)
stands-any letter place cs any lt = subst (λ n. nat_eq n 95 ≡ first_and_rest (letter_fits n) (λ more. true) (drop place cs)) (sym any) (stands-at 95 place cs lt)
