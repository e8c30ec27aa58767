-- All rows, each once.
use Rattle.std.proofs.Common.{inl, inr, ◌≡◌, ◌∙◌, sym, refl, ap, subst, ℕ, zero, suc, ◌+◌, ◌<◌, ◌≤◌, ◌==◌, ◌&&◌, ◌||◌, nat_lt, nat_le, Bool, true, false, List, [], ◌∷◌, ◌++◌, length, get_or, take, drop, arith}
use Rattle.std.specs.List.{list_any, range_with_len}
use Rattle.std.specs.List.Sorted.{IsPermutation}
use Rattle.std.proofs.lemmas.Bool.{cases_order}
use Rattle.std.proofs.lemmas.Bool.Decides.{nat_tests}
use Rattle.std.proofs.lemmas.List.FromFn.{length-range_with_len}
use Rattle.std.proofs.lemmas.List.Sorted.{list_any-IsPermutation}
use Rattle.dr_rowindex.specs.Orders.{AreAll}

-- ---- counted

pub one-counted : (a n : ℕ) → range_with_len a (suc n) ≡ range_with_len a n ++ (a + n) ∷ []
one-counted a zero = let e : a ≡ a + 0 = omega arith in ap (λ r. r ∷ []) e
one-counted a (suc n) = let e : a + 1 + n ≡ a + suc n = omega arith in ap (λ l. a ∷ l) (one-counted (a + 1) n ∙ ap (λ r. range_with_len (a + 1) n ++ r ∷ []) e)

-- which of the numbers from one on are a row that passes a test
counted : (test : ℕ → Bool) (a n i : ℕ) → list_any (λ r. (r == i) && test r) (range_with_len a n) ≡ ((nat_le a i && nat_lt i (a + n)) && test i)
counted test a zero i = none (nat_le a i) refl (nat_lt i (a + 0)) refl
  where
    none : (x : Bool) → nat_le a i ≡ x → (y : Bool) → nat_lt i (a + 0) ≡ y → false ≡ ((nat_le a i && nat_lt i (a + 0)) && test i)
    none true xs true ys = let no : nat_lt i (a + 0) ≡ false = grind (arith, nat_tests) in absurd (cc (sym ys ∙ no))
    none true xs false ys = sym (ap (λ b. (nat_le a i && b) && test i) ys ∙ ap (λ b. (b && false) && test i) xs)
    none false xs y ys = sym (ap (λ b. (b && nat_lt i (a + 0)) && test i) xs)
counted test a (suc n) i =
    ap (λ b. ((a == i) && test a) || b) (counted test (a + 1) n i)
    ∙ elim (cases_order i a) [
      | inl same ↦ at_it same
      | inr (inl less) ↦ below less
      | inr (inr more) ↦ above more
    ]
  where
    at_it : i ≡ a → (((a == i) && test a) || ((nat_le (a + 1) i && nat_lt i (a + 1 + n)) && test i)) ≡ ((nat_le a i && nat_lt i (a + suc n)) && test i)
    at_it same =
        let e : (a == i) ≡ true = grind (arith, nat_tests) in
        let l : nat_le (a + 1) i ≡ false = grind (arith, nat_tests) in
        let u : nat_le a i ≡ true = grind (arith, nat_tests) in
        let v : nat_lt i (a + suc n) ≡ true = grind (arith, nat_tests) in
        ap (λ b. (b && test a) || ((nat_le (a + 1) i && nat_lt i (a + 1 + n)) && test i)) e
        ∙ ap (λ b. test a || ((b && nat_lt i (a + 1 + n)) && test i)) l
        ∙ closed (test a) ∙ ap test (sym same)
        ∙ sym (ap (λ b. (b && nat_lt i (a + suc n)) && test i) u ∙ ap (λ b. b && test i) v)
      where
        closed : (b : Bool) → (b || false) ≡ b
        closed true = refl
        closed false = refl

    below : i < a → (((a == i) && test a) || ((nat_le (a + 1) i && nat_lt i (a + 1 + n)) && test i)) ≡ ((nat_le a i && nat_lt i (a + suc n)) && test i)
    below less =
        let e : (a == i) ≡ false = grind (arith, nat_tests) in
        let l : nat_le (a + 1) i ≡ false = grind (arith, nat_tests) in
        let u : nat_le a i ≡ false = grind (arith, nat_tests) in
        ap (λ b. (b && test a) || ((nat_le (a + 1) i && nat_lt i (a + 1 + n)) && test i)) e
        ∙ ap (λ b. (b && nat_lt i (a + 1 + n)) && test i) l
        ∙ sym (ap (λ b. (b && nat_lt i (a + suc n)) && test i) u)

    above : a < i → (((a == i) && test a) || ((nat_le (a + 1) i && nat_lt i (a + 1 + n)) && test i)) ≡ ((nat_le a i && nat_lt i (a + suc n)) && test i)
    above more =
        let e : (a == i) ≡ false = grind (arith, nat_tests) in
        let l : nat_le (a + 1) i ≡ true = grind (arith, nat_tests) in
        let u : nat_le a i ≡ true = grind (arith, nat_tests) in
        let v : a + 1 + n ≡ a + suc n = omega arith in
        ap (λ b. (b && test a) || ((nat_le (a + 1) i && nat_lt i (a + 1 + n)) && test i)) e
        ∙ ap (λ b. (b && nat_lt i (a + 1 + n)) && test i) l
        ∙ ap (λ b. nat_lt i b && test i) v
        ∙ sym (ap (λ b. (b && nat_lt i (a + suc n)) && test i) u)

-- none of the first so many numbers is as large as these are many
none-behind : (a n m : ℕ) → a + n ≤ m → list_any (nat_le m) (range_with_len a n) ≡ false
none-behind a zero m le = refl
none-behind a (suc n) m le =
    let c : nat_le m a ≡ false = grind (arith, nat_tests) in
    ap (λ b. b || list_any (nat_le m) (range_with_len (a + 1) n)) c ∙ none-behind (a + 1) n m (omega (arith, le))

-- ---- in some order

module _ (rows : List ℕ) (all : AreAll rows) where
  -- a row that passes a test stands among them
  pub told : (test : ℕ → Bool) (i : ℕ) → i < length rows → list_any (λ r. (r == i) && test r) rows ≡ test i
  told test i lt =
      let yes : (nat_le 0 i && nat_lt i (0 + length rows)) ≡ true = grind (arith, nat_tests) in
      sym (list_any-IsPermutation (λ r. (r == i) && test r) (range_with_len 0 (length rows)) rows all)
      ∙ counted test 0 (length rows) i ∙ ap (λ b. b && test i) yes

  no-row-behind : list_any (nat_le (length rows)) rows ≡ false
  no-row-behind = sym (list_any-IsPermutation (nat_le (length rows)) (range_with_len 0 (length rows)) rows all) ∙ none-behind 0 (length rows) (length rows) (omega arith)

  -- what stands at a place is a row
  pub row-within : (k r : ℕ) → k < length rows → get_or rows k r < length rows
  row-within k r lt = at rows k lt no-row-behind
    where
      at : (rs : List ℕ) (k : ℕ) → k < length rs → list_any (nat_le (length rows)) rs ≡ false → get_or rs k r < length rows
      at [] k lt none = absurd (omega (arith, lt))
      at (x ∷ rs) zero lt none = here (nat_le (length rows) x) refl
        where
          here : (b : Bool) → nat_le (length rows) x ≡ b → x < length rows
          here true is = absurd (cc (sym (ap (λ b. b || list_any (nat_le (length rows)) rs) is) ∙ none))
          here false is = grind (arith, nat_tests)
      at (x ∷ rs) (suc k) lt none = at rs k (omega (arith, lt)) (rest (nat_le (length rows) x) none)
        where
          rest : (a : Bool) → (a || list_any (nat_le (length rows)) rs) ≡ false → list_any (nat_le (length rows)) rs ≡ false
          rest true h = absurd (cc h)
          rest false h = h

-- so many rows in another order
pub all-sorted : (n : ℕ) (before after : List ℕ) → before ≡ range_with_len 0 n → IsPermutation before after → length after ≡ length before → AreAll after
all-sorted n before after is moved long =
    let count : n ≡ length after = sym (length-range_with_len 0 n) ∙ ap length (sym is) ∙ sym long in
    subst (λ m. IsPermutation (range_with_len 0 m) after) count (subst (λ l. IsPermutation l after) is moved)

-- ---- side by side

nothing : (p : ℕ → Bool) (from n : ℕ) → false ≡ list_any p (take n (drop from []))
nothing p zero zero = refl
nothing p zero (suc n) = refl
nothing p (suc from) zero = refl
nothing p (suc from) (suc n) = refl

neither : (a c : Bool) → ((a && false) || c) ≡ c
neither true c = refl
neither false c = refl

first : (a c : Bool) → ((a && true) || c) ≡ (a || c)
first true c = refl
first false c = refl

module _ (p q : ℕ → Bool) where
  none-but : (rows : List ℕ) → ((j r : ℕ) → j < length rows → q (get_or rows j r) ≡ false) → list_any (λ r. p r && q r) rows ≡ false
  none-but [] fails = refl
  none-but (r ∷ rows) fails =
      ap (λ b. (p r && b) || list_any (λ r. p r && q r) rows) (fails 0 r (omega arith)) ∙ neither (p r) (list_any (λ r. p r && q r) rows)
      ∙ none-but rows (λ j d lt. fails (suc j) d (omega (arith, lt)))

  -- those of a test that holds of so many from one place on alone
  pub between : (rows : List ℕ) (from n : ℕ)
      → ((j r : ℕ) → j < from → j < length rows → q (get_or rows j r) ≡ false)
      → ((j r : ℕ) → from ≤ j → j < from + n → j < length rows → q (get_or rows j r) ≡ true)
      → ((j r : ℕ) → from + n ≤ j → j < length rows → q (get_or rows j r) ≡ false)
      → list_any (λ r. p r && q r) rows ≡ list_any p (take n (drop from rows))
  between [] from n low mid high = nothing p from n
  between (r ∷ rows) zero zero low mid high = none-but (r ∷ rows) (λ j d lt. high j d (omega arith) lt)
  between (r ∷ rows) zero (suc n) low mid high =
      ap (λ b. (p r && b) || list_any (λ r. p r && q r) rows) (mid 0 r (omega arith) (omega arith) (omega arith))
      ∙ first (p r) (list_any (λ r. p r && q r) rows)
      ∙ ap (λ b. p r || b) (between rows zero n (λ j d lt lt'. absurd (omega (arith, lt)))
      (λ j d le lt lt'. mid (suc j) d (omega arith) (omega (arith, lt)) (omega (arith, lt')))
      (λ j d le lt. high (suc j) d (omega (arith, le)) (omega (arith, lt))))
  between (r ∷ rows) (suc from) n low mid high =
      ap (λ b. (p r && b) || list_any (λ r. p r && q r) rows) (low 0 r (omega arith) (omega arith))
      ∙ neither (p r) (list_any (λ r. p r && q r) rows)
      ∙ between rows from n (λ j d lt lt'. low (suc j) d (omega (arith, lt)) (omega (arith, lt')))
      (λ j d le lt lt'. mid (suc j) d (omega (arith, le)) (omega (arith, lt)) (omega (arith, lt')))
      (λ j d le lt. high (suc j) d (omega (arith, le)) (omega (arith, lt)))
