-- Codes that few texts have, by the digits of their ranks.
use Rattle.std.proofs.Common.{inl, inr, ◌≡◌, ◌∙◌, sym, refl, ap, subst, ℕ, ◌+◌, ◌*◌, ◌/◌, ◌%◌, ◌<◌, ◌≤◌, ◌==◌, ◌&&◌, not, cond, Bool, true, false, List, [], ◌∷◌, ◌++◌, length, get_or, take, set, replicate, Some, None, Option, IsSome, div-add-mod', div-le_self, div-one, mod-eq_of_lt, arith}
use Rattle.std.specs.List.{All, filter}
use Rattle.std.specs.BTreeMap.{BTreeMap}
use Rattle.std.proofs.lemmas.Bool.{cases_eq}
use Rattle.std.proofs.lemmas.Bool.Decides.{nat_tests}
use Rattle.std.proofs.lemmas.List.{length-set, get_or-set_same, get_or-set_other, get_or_default, take_more}
use Rattle.std.proofs.lemmas.List.Elements.{All-cons}
use Rattle.dr_rowindex.specs.Orders.{Tell}
use Rattle.dr_rowindex.specs.declared.row_set.RowSet.{RowSet}
use Rattle.dr_rowindex.proofs.TellLemmas.{tell-same}
use Rattle.dr_letters.specs.declared.common_code.CommonCode.{CommonCode}
use Rattle.dr_letters.specs.declared.rare_codes.RareCodes.{RareCodes}
use Rattle.dr_letters.specs.declared.text_letter.TextLetter.{TextLetter}
use Rattle.dr_letters.specs.Codes.{AreRead, is_common, is_rare}
use Rattle.dr_letters.specs.Pieces.{MeetsTwo}
use Rattle.dr_letters.specs.Ranks.{AreApart, AreRanksOf, HoldDigits, digit, has_digit, rank_of, rank_passes}
use Rattle.dr_letters.specs.Rare.{AreDigits, AreRare}
use Rattle.dr_letters.proofs.ReadLemmas.{PutRows, each-read, put_by_code, put_failed, put_passed, told-rare, unfiltered}

-- ---- a letter is put into the set of its digit

abbrev pub ArePut : (letters : List TextLetter) (ranks : BTreeMap ℕ ℕ) (divisor base count : ℕ) → List RowSet → Type 0
ArePut letters ranks divisor base count sets =
    (d : ℕ) (told : List Bool) → d < length sets → PutRows (λ (l : TextLetter). l.row) (λ l. has_digit ranks divisor base d l.code) letters (replicate count false) (get_or sets d told)

module _ (letters : List TextLetter) (own : List ℕ) (ranks : BTreeMap ℕ ℕ) (divisor base count k x : ℕ) (l : TextLetter) (sets : List RowSet) (new : List Bool) (within : k < length letters)
    (is : l ≡ get_or letters k l) (each : AreRanksOf ranks letters own) (at : x ≡ digit divisor base (get_or own k 0)) (there : x < length sets) (inside : l.row < length (get_or sets x [])) (put : new ≡ set (get_or sets x []) l.row true) where
  rank : rank_of ranks l.code ≡ Some (get_or own k 0)
  rank = ap (λ (m : TextLetter). rank_of ranks m.code) is ∙ each.each k 0 l within

  digit_is : (d : ℕ) → has_digit ranks divisor base d l.code ≡ (x == d)
  digit_is d = ap (rank_passes (λ r. digit divisor base r == d)) rank ∙ ap (λ n. n == d) (sym at)

  whole : take (k + 1) letters ≡ take k letters ++ l ∷ []
  whole = take_more letters k l within ∙ ap (λ m. take k letters ++ m ∷ []) (sym is)

  pub put-more : ArePut (take k letters) ranks divisor base count sets → ArePut (take (k + 1) letters) ranks divisor base count (set sets x new)
  put-more was d told lt = elim (cases_eq d x) [
    | inl same ↦ here same
    | inr differs ↦ (
        let less : d < length sets = omega (arith, lt, length-set sets x new) in
        let no : (x == d) ≡ false = grind (arith, nat_tests, differs) in
        subst (PutRows (λ (m : TextLetter). m.row) (λ m. has_digit ranks divisor base d m.code) (take (k + 1) letters) (replicate count false)) (sym (get_or-set_other sets x d new told differs))
        (put_failed (λ (m : TextLetter). m.row) (λ m. has_digit ranks divisor base d m.code) (take k letters) (take (k + 1) letters) l (replicate count false) (get_or sets d told) whole (was d told less) (digit_is d ∙ no)))
  ]
    where
      here : d ≡ x → PutRows (λ (m : TextLetter). m.row) (λ m. has_digit ranks divisor base d m.code) (take (k + 1) letters) (replicate count false) (get_or (set sets x new) d told)
      here same =
          let yes : (x == x) ≡ true = grind (arith, nat_tests) in
          subst (λ e. PutRows (λ (m : TextLetter). m.row) (λ m. has_digit ranks divisor base e m.code) (take (k + 1) letters) (replicate count false) (get_or (set sets x new) e told)) (sym same)
          (subst (PutRows (λ (m : TextLetter). m.row) (λ m. has_digit ranks divisor base x m.code) (take (k + 1) letters) (replicate count false)) (sym (get_or-set_same sets x new told there ∙ put))
          (put_passed (λ (m : TextLetter). m.row) (λ m. has_digit ranks divisor base x m.code) (take k letters) (take (k + 1) letters) l (replicate count false) (get_or sets x []) whole (was x [] there) (digit_is x ∙ yes) inside))

pub rows-set : (count x : ℕ) (sets : List RowSet) (new : List Bool) → x < length sets → length new ≡ count → All (λ s. length s ≡ count) sets → All (λ s. length s ≡ count) (set sets x new)
rows-set count x sets new there long all i d lt = elim (cases_eq i x) [
  | inl same ↦ (ap (λ j. length (get_or (set sets x new) j d)) same ∙ ap length (get_or-set_same sets x new d there) ∙ long)
  | inr differs ↦ (ap length (get_or-set_other sets x i new d differs) ∙ all i d (omega (arith, lt, length-set sets x new)))
]

-- what was put in by the loop over all letters
pub put-held : (letters : List TextLetter) (ranks : BTreeMap ℕ ℕ) (divisor base count k : ℕ) (sets : List RowSet) → length letters ≤ k → ArePut (take k letters) ranks divisor base count sets → HoldDigits count letters ranks divisor base sets
put-held letters ranks divisor base count k sets le put d i told lt within = put_by_code (λ n. has_digit ranks divisor base d n) letters k count (get_or sets d told) le (put d told lt) i within

-- ---- what was told of the letters is told of their codes

pub rare-digits : (common : List CommonCode) (codes : List ℕ) (letters others : List TextLetter) (count : ℕ) (ranks : BTreeMap ℕ ℕ) (divisor base : ℕ) (sets : List RowSet) → length codes ≡ count → All (λ s. length s ≡ count) sets
    → AreRead letters codes → others ≡ filter (is_rare common) letters → HoldDigits count others ranks divisor base sets → AreDigits (λ n. not (is_common common n) && not (n == 0)) codes ranks divisor base sets
rare-digits common codes letters others count ranks divisor base sets long rows read is held d told lt =
    tell-same (λ n. not (is_common common n) && (not (n == 0) && has_digit ranks divisor base d n)) (λ n. (not (is_common common n) && not (n == 0)) && has_digit ranks divisor base d n) codes (get_or sets d told)
    (λ n. regroups (not (is_common common n)) (not (n == 0)) (has_digit ranks divisor base d n))
    (told-rare common (λ n. has_digit ranks divisor base d n) codes letters others count (get_or sets d told) long (rows d told lt) read is (λ i within. held d i told lt within))
  where
    regroups : (a b c : Bool) → (a && (b && c)) ≡ ((a && b) && c)
    regroups true b c = refl
    regroups false b c = refl

pub ranked-rare : (common : List CommonCode) (codes : List ℕ) (letters others : List TextLetter) (ranks : BTreeMap ℕ ℕ) → AreRead letters codes → others ≡ filter (is_rare common) letters → All (λ (l : TextLetter). IsSome (rank_of ranks l.code)) others
    → (i : ℕ) → i < length codes → (not (is_common common (get_or codes i 0)) && not (get_or codes i 0 == 0)) ≡ true → IsSome (rank_of ranks (get_or codes i 0))
ranked-rare common codes letters others ranks read is all i lt passes =
    each-read (λ n. not (is_common common n) ≡ true → IsSome (rank_of ranks n)) codes letters read each i lt (second (not (is_common common (get_or codes i 0))) (get_or codes i 0 == 0) passes) (first (not (is_common common (get_or codes i 0))) (not (get_or codes i 0 == 0)) passes)
  where
    each : All (λ (l : TextLetter). not (is_common common l.code) ≡ true → IsSome (rank_of ranks l.code)) letters
    each = unfiltered (λ (l : TextLetter). IsSome (rank_of ranks l.code)) (is_rare common) letters (subst (All (λ (l : TextLetter). IsSome (rank_of ranks l.code))) is all)

    first : (a b : Bool) → (a && b) ≡ true → a ≡ true
    first true b both = refl
    first false b both = both

    second : (a b : Bool) → (a && not b) ≡ true → b ≡ false
    second true true both = sym both
    second true false both = refl
    second false b both = absurd (cc both)

pub not_true : (b : Bool) → not b ≡ true → b ≡ false
not_true true is = sym is
not_true false is = refl

-- a code that isn't common, and isn't that of no character
pub is_other : (common : List CommonCode) (code : ℕ) → is_common common code ≡ false → 0 < code → (not (is_common common code) && not (code == 0)) ≡ true
is_other common code rare some = let no : (code == 0) ≡ false = grind (arith, nat_tests, some) in ap (λ b. not b && not (code == 0)) rare ∙ ap not no

pub only-rare : (common : List CommonCode) (letters : List TextLetter) → All (λ (l : TextLetter). is_rare common l ≡ true) (filter (is_rare common) letters)
only-rare common [] = λ i d lt. absurd (omega (arith, lt))
only-rare common (l ∷ letters) = at (only-rare common letters) (is_rare common l) refl
  where
    at : All (λ (m : TextLetter). is_rare common m ≡ true) (filter (is_rare common) letters) → (b : Bool) → is_rare common l ≡ b
        → All (λ (m : TextLetter). is_rare common m ≡ true) (cond b (l ∷ filter (is_rare common) letters) (filter (is_rare common) letters))
    at others true passes = All-cons (λ (m : TextLetter). is_rare common m ≡ true) l (filter (is_rare common) letters) passes others
    at others false fails = others

-- ---- the texts that have a code

-- a number is told by its two digits
same_rank : (base r s : ℕ) → 0 < base → r < 18446744073709551615 → s < 18446744073709551615 → digit 1 base s ≡ digit 1 base r → digit base 18446744073709551615 s ≡ digit base 18446744073709551615 r → s ≡ r
same_rank base r s some small small' last first =
    sym (div-add-mod' s base) ∙ ap (λ n. n * base + s % base) quotients ∙ ap (λ n. r / base * base + n) rests ∙ div-add-mod' r base
  where
    left : (n : ℕ) → n < 18446744073709551615 → n / base % 18446744073709551615 ≡ n / base
    left n lt = let le = div-le_self n base in let less : n / base < 18446744073709551615 = omega (arith, lt, le) in mod-eq_of_lt less

    quotients : s / base ≡ r / base
    quotients = sym (left s small') ∙ first ∙ left r small

    rests : s % base ≡ r % base
    rests = sym (ap (λ n. n % base) (div-one s)) ∙ last ∙ ap (λ n. n % base) (div-one r)

module _ (r : RareCodes) (code rank : ℕ) (apart : AreApart r.ranks) (some : 0 < r.base) (has : rank_of r.ranks code ≡ Some rank) where
  abbrev Has : (divisor base n : ℕ) → Bool
  Has divisor base n = has_digit r.ranks divisor base (digit divisor base rank) n

  own : (divisor base : ℕ) → Has divisor base code ≡ true
  own divisor base = let yes : (digit divisor base rank == digit divisor base rank) ≡ true = grind (arith, nat_tests) in ap (rank_passes (λ s. digit divisor base s == digit divisor base rank)) has ∙ yes

  digit_same : (divisor base n s : ℕ) → rank_of r.ranks n ≡ Some s → Has divisor base n ≡ true → digit divisor base s ≡ digit divisor base rank
  digit_same divisor base n s is told =
      let same : (digit divisor base s == digit divisor base rank) ≡ true = sym (ap (rank_passes (λ t. digit divisor base t == digit divisor base rank)) is) ∙ told in
      grind (arith, nat_tests, same)

  same_code : (n : ℕ) → Has 1 r.base n ≡ true → Has r.base 18446744073709551615 n ≡ true → n ≡ code
  same_code n last first = at (rank_of r.ranks n) refl
    where
      at : (o : Option ℕ) → rank_of r.ranks n ≡ o → n ≡ code
      at None is = absurd (cc (sym (ap (rank_passes (λ s. digit 1 r.base s == digit 1 r.base rank)) is) ∙ last))
      at (Some s) is =
          let same : s ≡ rank = same_rank r.base rank s some (apart.small code rank has) (apart.small n s is) (digit_same 1 r.base n s is last) (digit_same r.base 18446744073709551615 n s is first) in
          apart.apart n code rank (is ∙ ap Some same) has

  -- one that passes a test and has the same two digits is the code
  is_code : (test : ℕ → Bool) (n : ℕ) → test code ≡ true → (n == code) ≡ ((test n && Has 1 r.base n) && (test n && Has r.base 18446744073709551615 n))
  is_code test n passes = elim (cases_eq n code) [
    | inl same ↦ (let yes : (n == code) ≡ true = grind (arith, nat_tests, same) in
        yes ∙ sym (all (test n) (Has 1 r.base n) (Has r.base 18446744073709551615 n) (ap test same ∙ passes) (ap (Has 1 r.base) same ∙ own 1 r.base) (ap (Has r.base 18446744073709551615) same ∙ own r.base 18446744073709551615)))
    | inr differs ↦ (let no : (n == code) ≡ false = grind (arith, nat_tests, differs) in
        no ∙ sym (some_fails (test n) (Has 1 r.base n) (Has r.base 18446744073709551615 n) (λ last first. differs (same_code n last first))))
  ]
    where
      all : (t a b : Bool) → t ≡ true → a ≡ true → b ≡ true → ((t && a) && (t && b)) ≡ true
      all true true true q q' q'' = refl
      all false a b q q' q'' = absurd (cc q)
      all true false b q q' q'' = absurd (cc q')
      all true true false q q' q'' = absurd (cc q'')

      some_fails : (t a b : Bool) → (a ≡ true → b ≡ true → ⊥) → ((t && a) && (t && b)) ≡ false
      some_fails false a b never = refl
      some_fails true false b never = refl
      some_fails true true false never = refl
      some_fails true true true never = absurd (never refl refl)

  pub few-meet : (test : ℕ → Bool) (codes : List ℕ) (a b : List Bool) → AreRare test codes r → test code ≡ true → a ≡ get_or r.last.items (digit 1 r.base rank) [] → b ≡ get_or r.first.items (digit r.base 18446744073709551615 rank) []
      → digit 1 r.base rank < length r.last.items → digit r.base 18446744073709551615 rank < length r.first.items → MeetsTwo (λ n. n == code) codes a b
  few-meet test codes a b are passes is_a is_b in_a in_b =
      let last = subst (Tell (λ n. test n && Has 1 r.base n) codes) (sym is_a) (are.last (digit 1 r.base rank) [] in_a) in
      let first = subst (Tell (λ n. test n && Has r.base 18446744073709551615 n) codes) (sym is_b) (are.first (digit r.base 18446744073709551615 rank) [] in_b) in
      record {
        counts = (last.count, first.count);
        each = λ i t lt.
            let n = get_or codes i t in
            is_code test n passes ∙ ap (λ e. e && (test n && Has r.base 18446744073709551615 n)) (sym (last.each i t lt)) ∙ ap (λ e. get_or a i false && e) (sym (first.each i t lt));
      }

pub none-has : (r : RareCodes) (code : ℕ) (test : ℕ → Bool) (codes : List ℕ) → rank_of r.ranks code ≡ None → AreRare test codes r → test code ≡ true → (i n : ℕ) → i < length codes → (get_or codes i n == code) ≡ false
none-has r code test codes none are passes i n lt = elim (cases_eq (get_or codes i 0) code) [
  | inl same ↦ absurd (cc (subst IsSome none (subst (λ m. IsSome (rank_of r.ranks m)) same (are.ranked i lt (ap test same ∙ passes)))))
  | inr differs ↦ (let no : (get_or codes i 0 == code) ≡ false = grind (arith, nat_tests, differs) in ap (λ m. m == code) (get_or_default codes i n 0 lt) ∙ no)
]
