-- Characters that were read, each with the row of its text.
use Rattle.std.proofs.Common.{inl, inr, ◌≡◌, ◌∙◌, sym, refl, ap, subst, ℕ, zero, suc, ◌+◌, ◌<◌, ◌≤◌, ◌==◌, ◌&&◌, ◌||◌, cond, not, Bool, true, false, List, [], ◌∷◌, ◌++◌, length, get_or, take, set, replicate, arith}
use Rattle.std.specs.List.{All, filter, list_any}
use Rattle.std.proofs.lemmas.Bool.{cases_eq}
use Rattle.std.proofs.lemmas.Bool.Decides.{nat_tests}
use Rattle.std.proofs.lemmas.List.{length-set, get_or-set_same, get_or-set_other, get_or-replicate, length-replicate, get_or_default, take_all, take_more}
use Rattle.std.proofs.lemmas.List.Elements.{All-cons, All-head, All-tail, All-weaker}
use Rattle.std.proofs.lemmas.List.Folds.{list_any-append}
use Rattle.dr_rowindex.specs.Orders.{Tell}
use Rattle.dr_rowindex.specs.Truths.{Joined}
use Rattle.dr_letters.specs.declared.text_letter.TextLetter.{TextLetter}
use Rattle.dr_letters.specs.declared.common_code.CommonCode.{CommonCode}
use Rattle.dr_letters.specs.Codes.{AreRead, is_common, is_rare}

or_false : (b : Bool) → (b || false) ≡ b
or_false true = refl
or_false false = refl

truly : (b : Bool) → (b || true) ≡ true
truly true = refl
truly false = refl

never : (b : Bool) → (b && false) ≡ false
never true = refl
never false = refl

-- ---- rows that are put into a set

-- those of some things that pass a test were put into a set, each by its row
pub record PutRows {X : Type 0} (row : X → ℕ) (test : X → Bool) (xs : List X) (before after : List Bool) : Type 0 where
  pub count : length after ≡ length before
  pub each : (i : ℕ) → get_or after i false ≡ (get_or before i false || list_any (λ x. (row x == i) && test x) xs)

pub put_none : {X : Type 0} (row : X → ℕ) (test : X → Bool) (before : List Bool) → PutRows row test [] before before
put_none row test before = record { count = refl; each = λ i. sym (or_false (get_or before i false)) }

module _ {X : Type 0} (row : X → ℕ) (test : X → Bool) (xs all : List X) (x : X) (before after : List Bool) (is : all ≡ xs ++ x ∷ []) (was : PutRows row test xs before after) where
  split : (i : ℕ) → list_any (λ y. (row y == i) && test y) all ≡ (list_any (λ y. (row y == i) && test y) xs || ((row x == i) && test x))
  split i = ap (list_any (λ y. (row y == i) && test y)) is ∙ list_any-append (λ y. (row y == i) && test y) xs (x ∷ []) ∙ ap (λ b. list_any (λ y. (row y == i) && test y) xs || b) (or_false ((row x == i) && test x))

  kept : (i : ℕ) → ((row x == i) && test x) ≡ false → list_any (λ y. (row y == i) && test y) all ≡ list_any (λ y. (row y == i) && test y) xs
  kept i fails = split i ∙ ap (λ b. list_any (λ y. (row y == i) && test y) xs || b) fails ∙ or_false (list_any (λ y. (row y == i) && test y) xs)

  pub put_failed : test x ≡ false → PutRows row test all before after
  put_failed fails = record {
    count = was.count;
    each = λ i. was.each i ∙ ap (λ b. get_or before i false || b) (sym (kept i (ap (λ b. (row x == i) && b) fails ∙ never (row x == i))));
  }

  pub put_passed : test x ≡ true → row x < length after → PutRows row test all before (set after (row x) true)
  put_passed passes lt = record {
    count = length-set after (row x) true ∙ was.count;
    each = λ i. elim (cases_eq i (row x)) [
      | inl same ↦ (subst (λ j. get_or (set after (row x) true) j false ≡ (get_or before j false || list_any (λ y. (row y == j) && test y) all)) (sym same)
          (get_or-set_same after (row x) true false lt ∙ sym (ap (λ b. get_or before (row x) false || b) found ∙ truly (get_or before (row x) false))))
      | inr differs ↦ (get_or-set_other after (row x) i true false differs ∙ was.each i ∙ ap (λ b. get_or before i false || b) (sym (kept i (apart i (λ same. differs (sym same))))))
    ];
  }
    where
      found : list_any (λ y. (row y == row x) && test y) all ≡ true
      found =
          let c : (row x == row x) ≡ true = grind (arith, nat_tests) in
          split (row x) ∙ ap (λ b. list_any (λ y. (row y == row x) && test y) xs || (b && test x)) c ∙ ap (λ b. list_any (λ y. (row y == row x) && test y) xs || b) passes
          ∙ truly (list_any (λ y. (row y == row x) && test y) xs)

      apart : (i : ℕ) → (row x ≡ i → ⊥) → ((row x == i) && test x) ≡ false
      apart i differs = let c : (row x == i) ≡ false = grind (arith, nat_tests) in ap (λ b. b && test x) c

pub put_told : {X : Type 0} (row : X → ℕ) (test : X → Bool) (xs all : List X) (x : X) (before after after' : List Bool) (told : Bool) → all ≡ xs ++ x ∷ [] → told ≡ test x → row x < length after
    → (told ≡ true → after' ≡ set after (row x) true) → (told ≡ false → after' ≡ after) → PutRows row test xs before after → PutRows row test all before after'
put_told row test xs all x before after after' true is same lt passed failed was = subst (PutRows row test all before) (sym (passed refl)) (put_passed row test xs all x before after is was (sym same) lt)
put_told row test xs all x before after after' false is same lt passed failed was = subst (PutRows row test all before) (sym (failed refl)) (put_failed row test xs all x before after is was (sym same))

-- ---- what is told by the letters

abbrev pub Own : List ℕ → List TextLetter → Type 0
Own codes letters = All (λ (l : TextLetter). get_or codes l.row 0 ≡ l.code) letters

-- what a row has is told by its row, so whether one of a row passes is whether there is one, and the row passes
pub any_row : {X : Type 0} (row : X → ℕ) (test : X → Bool) (passes : ℕ → Bool) (xs : List X) (i : ℕ) → All (λ x. test x ≡ passes (row x)) xs
    → list_any (λ x. (row x == i) && test x) xs ≡ (list_any (λ x. row x == i) xs && passes i)
any_row row test passes [] i own = refl
any_row row test passes (x ∷ xs) i own =
    let others : list_any (λ y. (row y == i) && test y) xs ≡ (list_any (λ y. row y == i) xs && passes i) = any_row row test passes xs i (All-tail (λ y. test y ≡ passes (row y)) x xs own) in
    elim (cases_eq (row x) i) [
      | inl same ↦ (here same others)
      | inr differs ↦ (let other : (row x == i) ≡ false = grind (arith, nat_tests, differs) in
          ap (λ b. (b && test x) || list_any (λ y. (row y == i) && test y) xs) other ∙ others ∙ sym (ap (λ b. (b || list_any (λ y. row y == i) xs) && passes i) other))
    ]
  where
    here : row x ≡ i → list_any (λ y. (row y == i) && test y) xs ≡ (list_any (λ y. row y == i) xs && passes i)
        → ((row x == i) && test x) || list_any (λ y. (row y == i) && test y) xs ≡ (((row x == i) || list_any (λ y. row y == i) xs) && passes i)
    here same rest =
        let yes : (row x == i) ≡ true = grind (arith, nat_tests, same) in
        let told : test x ≡ passes i = All-head (λ y. test y ≡ passes (row y)) x xs own ∙ ap passes same in
        ap (λ b. (b && test x) || list_any (λ y. (row y == i) && test y) xs) yes
        ∙ ap (λ b. b || list_any (λ y. (row y == i) && test y) xs) told ∙ ap (λ b. passes i || b) rest
        ∙ once (passes i) (list_any (λ y. row y == i) xs)
        ∙ sym (ap (λ b. (b || list_any (λ y. row y == i) xs) && passes i) yes)
      where
        once : (a b : Bool) → (a || (b && a)) ≡ (true && a)
        once true b = refl
        once false true = refl
        once false false = refl

any_own : (f : ℕ → Bool) (codes : List ℕ) (letters : List TextLetter) (i : ℕ) → Own codes letters
    → list_any (λ (l : TextLetter). (l.row == i) && f l.code) letters ≡ (list_any (λ (l : TextLetter). l.row == i) letters && f (get_or codes i 0))
any_own f codes letters i own = any_row (λ l. l.row) (λ l. f l.code) (λ r. f (get_or codes r 0)) letters i
    (All-weaker (λ (l : TextLetter). get_or codes l.row 0 ≡ l.code) (λ l. f l.code ≡ f (get_or codes l.row 0)) (λ l is. ap f (sym is)) letters own)

pub each_row : {X : Type 0} (row : X → ℕ) (xs : List X) (i : ℕ) → list_any (λ x. (row x == i) && true) xs ≡ list_any (λ x. row x == i) xs
each_row row [] i = refl
each_row row (x ∷ xs) i = ap (λ b. b || list_any (λ y. (row y == i) && true) xs) (same (row x == i)) ∙ ap (λ b. (row x == i) || b) (each_row row xs i)
  where
    same : (b : Bool) → (b && true) ≡ b
    same true = refl
    same false = refl

some_code : (f : ℕ → Bool) (n : ℕ) → f 0 ≡ false → (not (n == 0) && f n) ≡ f n
some_code f n none = elim (cases_eq n 0) [
  | inl same ↦ (ap (λ m. not (m == 0) && f m) same ∙ sym none ∙ sym (ap f same))
  | inr differs ↦ (let some : (n == 0) ≡ false = grind (arith, nat_tests, differs) in ap (λ b. not b && f n) some)
]

pub told-read : (f : ℕ → Bool) (codes : List ℕ) (letters : List TextLetter) (k count : ℕ) (told : List Bool) → f 0 ≡ false → length codes ≡ count → length letters ≤ k
    → AreRead letters codes → PutRows (λ (l : TextLetter). l.row) (λ l. f l.code) (take k letters) (replicate count false) told → Tell f codes told
told-read f codes letters k count told zero_fails long le read was = record {
  count = put.count ∙ length-replicate count false ∙ sym long;
  each = λ i v lt.
      put.each i
      ∙ ap (λ b. b || list_any (λ (l : TextLetter). (l.row == i) && f l.code) letters) (get_or-replicate count i false false (omega (arith, lt, long)))
      ∙ any_own f codes letters i read.own ∙ ap (λ b. b && f (get_or codes i 0)) (read.each i lt) ∙ some_code f (get_or codes i 0) zero_fails
      ∙ ap f (get_or_default codes i 0 v lt);
}
  where
    put : PutRows (λ (l : TextLetter). l.row) (λ l. f l.code) letters (replicate count false) told
    put = subst (λ l. PutRows (λ (x : TextLetter). x.row) (λ x. f x.code) l (replicate count false) told) (take_all k letters le) was

found : (P : ℕ → Type 0) (codes : List ℕ) (letters : List TextLetter) (i : ℕ) → All (λ (l : TextLetter). P l.code) letters → Own codes letters → list_any (λ (l : TextLetter). l.row == i) letters ≡ true
    → P (get_or codes i 0)
found P codes [] i all own any = absurd (cc any)
found P codes (l ∷ letters) i all own any = elim (cases_eq l.row i) [
  | inl same ↦ (subst P (sym (All-head (λ (m : TextLetter). get_or codes m.row 0 ≡ m.code) l letters own) ∙ ap (λ r. get_or codes r 0) same) (All-head (λ (m : TextLetter). P m.code) l letters all))
  | inr differs ↦ (let no : (l.row == i) ≡ false = grind (arith, nat_tests, differs) in
      found P codes letters i (All-tail (λ (m : TextLetter). P m.code) l letters all) (All-tail (λ (m : TextLetter). get_or codes m.row 0 ≡ m.code) l letters own) (sym (ap (λ b. b || list_any (λ (m : TextLetter). m.row == i) letters) no) ∙ any))
]

-- what is so of all codes that were read is so of each code that is that of a character
pub each-read : (P : ℕ → Type 0) (codes : List ℕ) (letters : List TextLetter) → AreRead letters codes → All (λ (l : TextLetter). P l.code) letters
    → (i : ℕ) → i < length codes → (get_or codes i 0 == 0) ≡ false → P (get_or codes i 0)
each-read P codes letters read all i lt some = found P codes letters i all read.own (read.each i lt ∙ ap not some)

-- the texts that have no character are the others
pub ended-read : (codes : List ℕ) (letters : List TextLetter) (count : ℕ) (others all ended : List Bool) → length codes ≡ count → all ≡ replicate count true → AreRead letters codes
    → ((i : ℕ) → i < count → get_or others i false ≡ list_any (λ (l : TextLetter). (l.row == i) && true) letters) → Joined (λ a b. a && not b) others all ended → Tell (λ n. n == 0) codes ended
ended-read codes letters count others all ended long is read told joined = record {
  count = joined.count ∙ ap length is ∙ length-replicate count true ∙ sym long;
  each = λ i v lt. joined.each i (omega (arith, lt, long, ap length is, length-replicate count true))
      ∙ ap (λ b. b && not (get_or others i false)) (ap (λ l. get_or l i false) is ∙ get_or-replicate count i true false (omega (arith, lt, long)))
      ∙ ap not (told i (omega (arith, lt, long)) ∙ each_row (λ (l : TextLetter). l.row) letters i ∙ read.each i lt) ∙ twice (get_or codes i 0 == 0) ∙ ap (λ n. n == 0) (get_or_default codes i 0 v lt);
}
  where
    twice : (b : Bool) → not (not b) ≡ b
    twice true = refl
    twice false = refl

-- ---- remainders that were seen

pub now_seen : (seen : List Bool) (n : ℕ) → n < length seen → get_or (set seen n true) n false ≡ true
now_seen seen n lt = get_or-set_same seen n true false lt

pub still_seen : (seen : List Bool) (n m : ℕ) → n < length seen → get_or seen m false ≡ true → get_or (set seen n true) m false ≡ true
still_seen seen n m lt was = elim (cases_eq m n) [
  | inl same ↦ (ap (λ k. get_or (set seen n true) k false) same ∙ now_seen seen n lt)
  | inr differs ↦ (get_or-set_other seen n m true false differs ∙ was)
]

-- ---- what was put in by a loop over some letters

pub put_by_code : (f : ℕ → Bool) (letters : List TextLetter) (k count : ℕ) (told : List Bool) → length letters ≤ k → PutRows (λ (l : TextLetter). l.row) (λ l. f l.code) (take k letters) (replicate count false) told
    → (i : ℕ) → i < count → get_or told i false ≡ list_any (λ (l : TextLetter). (l.row == i) && f l.code) letters
put_by_code f letters k count told le put i lt =
    let all = subst (λ l. PutRows (λ (x : TextLetter). x.row) (λ x. f x.code) l (replicate count false) told) (take_all k letters le) put in
    all.each i ∙ ap (λ b. b || list_any (λ (l : TextLetter). (l.row == i) && f l.code) letters) (get_or-replicate count i false false lt)

-- ---- the characters whose codes aren't common

pub common_at : (common : List CommonCode) (k code : ℕ) (d : CommonCode) → k < length common → (get_or common k d).code ≡ code → is_common common code ≡ true
common_at [] k code d lt is = absurd (omega (arith, lt))
common_at (c ∷ common) zero code d lt is = let same : (c.code == code) ≡ true = grind (arith, nat_tests, is) in ap (λ b. b || is_common common code) same
common_at (c ∷ common) (suc k) code d lt is = ap (λ b. (c.code == code) || b) (common_at common k code d (omega (arith, lt)) is) ∙ truly (c.code == code)

pub found_common : (common : List CommonCode) (k code : ℕ) → k < length common → ((d : CommonCode) → (get_or common k d).code ≡ code) → is_common common code ≡ true
found_common [] k code lt is = absurd (omega (arith, lt))
found_common (c ∷ common) k code lt is = common_at (c ∷ common) k code c lt (is c)

pub common_next : (common : List CommonCode) (k code : ℕ) (d : CommonCode) → k < length common → ((get_or common k d).code ≡ code → ⊥) → is_common (take k common) code ≡ false → is_common (take (k + 1) common) code ≡ false
common_next common k code d lt differs was =
    let c = get_or common k d in
    let other : (c.code == code) ≡ false = grind (arith, nat_tests, differs) in
    ap (λ l. is_common l code) (take_more common k d lt) ∙ list_any-append (λ (x : CommonCode). x.code == code) (take k common) (c ∷ []) ∙ ap (λ b. b || ((c.code == code) || false)) was ∙ or_false (c.code == code) ∙ other

any_filter : (f g : TextLetter → Bool) (xs : List TextLetter) → list_any f (filter g xs) ≡ list_any (λ x. g x && f x) xs
any_filter f g [] = refl
any_filter f g (x ∷ xs) = at (any_filter f g xs) (g x)
  where
    at : list_any f (filter g xs) ≡ list_any (λ y. g y && f y) xs → (b : Bool) → list_any f (cond b (x ∷ filter g xs) (filter g xs)) ≡ ((b && f x) || list_any (λ y. g y && f y) xs)
    at rest true = ap (λ b. f x || b) rest
    at rest false = rest

pub unfiltered : (P : TextLetter → Type 0) (g : TextLetter → Bool) (xs : List TextLetter) → All P (filter g xs) → All (λ x. g x ≡ true → P x) xs
unfiltered P g [] all = λ k d lt is. absurd (omega (arith, lt))
unfiltered P g (x ∷ xs) all = All-cons (λ y. g y ≡ true → P y) x xs (first (g x) all) (unfiltered P g xs (rest (g x) all))
  where
    first : (b : Bool) → All P (cond b (x ∷ filter g xs) (filter g xs)) → b ≡ true → P x
    first true all' is = All-head P x (filter g xs) all'
    first false all' is = absurd (cc is)

    rest : (b : Bool) → All P (cond b (x ∷ filter g xs) (filter g xs)) → All P (filter g xs)
    rest true all' = All-tail P x (filter g xs) all'
    rest false all' = all'

pub told-rare : (common : List CommonCode) (f : ℕ → Bool) (codes : List ℕ) (letters others : List TextLetter) (count : ℕ) (told : List Bool) → length codes ≡ count → length told ≡ count → AreRead letters codes → others ≡ filter (is_rare common) letters
    → ((i : ℕ) → i < count → get_or told i false ≡ list_any (λ (l : TextLetter). (l.row == i) && f l.code) others)
    → Tell (λ n. not (is_common common n) && (not (n == 0) && f n)) codes told
told-rare common f codes letters others count told long rows read is each = record {
  count = rows ∙ sym long;
  each = λ i v lt.
      each i (omega (arith, lt, long)) ∙ ap (list_any (λ (l : TextLetter). (l.row == i) && f l.code)) is ∙ any_filter (λ l. (l.row == i) && f l.code) (is_rare common) letters
      ∙ turned i letters ∙ any_own (λ n. not (is_common common n) && f n) codes letters i read.own ∙ ap (λ b. b && (not (is_common common (get_or codes i 0)) && f (get_or codes i 0))) (read.each i lt)
      ∙ swapped (not (get_or codes i 0 == 0)) (not (is_common common (get_or codes i 0))) (f (get_or codes i 0)) ∙ ap (λ n. not (is_common common n) && (not (n == 0) && f n)) (get_or_default codes i 0 v lt);
}
  where
    swapped : (a b c : Bool) → (a && (b && c)) ≡ (b && (a && c))
    swapped true true c = refl
    swapped true false c = refl
    swapped false true c = refl
    swapped false false c = refl

    turned : (i : ℕ) (xs : List TextLetter) → list_any (λ (l : TextLetter). is_rare common l && ((l.row == i) && f l.code)) xs ≡ list_any (λ (l : TextLetter). (l.row == i) && (not (is_common common l.code) && f l.code)) xs
    turned i [] = refl
    turned i (x ∷ xs) = ap (λ b. b || list_any (λ (l : TextLetter). is_rare common l && ((l.row == i) && f l.code)) xs) (swapped (is_rare common x) (x.row == i) (f x.code)) ∙ ap (λ b. ((x.row == i) && (not (is_common common x.code) && f x.code)) || b) (turned i xs)
