-- Rows that are put into a set.
use Rattle.std.proofs.Common.{inl, inr, ◌≡◌, ◌∙◌, sym, refl, ap, subst, ℕ, zero, suc, ◌+◌, ◌-◌, ◌<◌, ◌≤◌, ◌==◌, ◌&&◌, ◌||◌, Bool, true, false, List, [], ◌∷◌, ◌++◌, length, get_or, take, drop, set, slice_range, length-drop, arith}
use Rattle.std.specs.List.{list_any}
use Rattle.std.proofs.Math.Seq.{take-add}
use Rattle.std.proofs.lemmas.Bool.{cases_eq}
use Rattle.std.proofs.lemmas.Bool.Decides.{nat_tests}
use Rattle.std.proofs.lemmas.List.{length-set, get_or-set_same, get_or-set_other, get_or-drop, take_more}
use Rattle.std.proofs.lemmas.List.Folds.{list_any-append}
use Rattle.dr_rowindex.specs.Orders.{AreAll, Adds, Put}
use Rattle.dr_rowindex.proofs.RowLemmas.{between, told}

or_false : (b : Bool) → (b || false) ≡ b
or_false true = refl
or_false false = refl

truly : (b : Bool) → (b || true) ≡ true
truly true = refl
truly false = refl

-- those of some rows that pass a test were put into a set
pub record PutWhere (test : ℕ → Bool) (rows : List ℕ) (before after : List Bool) : Type 0 where
  pub count : length after ≡ length before
  pub each : (i : ℕ) → get_or after i false ≡ (get_or before i false || list_any (λ r. (r == i) && test r) rows)

-- ---- one by one

pub where-none : (test : ℕ → Bool) (before : List Bool) → PutWhere test [] before before
where-none test before = record { count = refl; each = λ i. sym (or_false (get_or before i false)) }

module _ (test : ℕ → Bool) (rows all : List ℕ) (r : ℕ) (before after : List Bool) (is : all ≡ rows ++ r ∷ []) (was : PutWhere test rows before after) where
  split : (i : ℕ) → list_any (λ r. (r == i) && test r) all ≡ (list_any (λ r. (r == i) && test r) rows || ((r == i) && test r))
  split i = ap (list_any (λ r. (r == i) && test r)) is ∙ list_any-append (λ r. (r == i) && test r) rows (r ∷ []) ∙ ap (λ b. list_any (λ r. (r == i) && test r) rows || b) (or_false ((r == i) && test r))

  kept : (i : ℕ) → ((r == i) && test r) ≡ false → list_any (λ r. (r == i) && test r) all ≡ list_any (λ r. (r == i) && test r) rows
  kept i fails = split i ∙ ap (λ b. list_any (λ r. (r == i) && test r) rows || b) fails ∙ or_false (list_any (λ r. (r == i) && test r) rows)

  pub where-failed : test r ≡ false → PutWhere test all before after
  where-failed fails = record {
    count = was.count;
    each = λ i. was.each i ∙ ap (λ b. get_or before i false || b) (sym (kept i (ap (λ b. (r == i) && b) fails ∙ never (r == i))));
  }
    where
      never : (b : Bool) → (b && false) ≡ false
      never true = refl
      never false = refl

  pub where-passed : test r ≡ true → r < length after → PutWhere test all before (set after r true)
  where-passed passes lt = record {
    count = length-set after r true ∙ was.count;
    each = λ i. elim (cases_eq i r) [
      | inl same ↦ (subst (λ j. get_or (set after r true) j false ≡ (get_or before j false || list_any (λ r. (r == j) && test r) all)) (sym same)
          (get_or-set_same after r true false lt ∙ sym (ap (λ b. get_or before r false || b) found ∙ truly (get_or before r false))))
      | inr differs ↦ (get_or-set_other after r i true false differs ∙ was.each i ∙ ap (λ b. get_or before i false || b) (sym (kept i (apart i (λ same. differs (sym same))))))
    ];
  }
    where
      found : list_any (λ s. (s == r) && test s) all ≡ true
      found =
          let c : (r == r) ≡ true = grind (arith, nat_tests) in
          split r ∙ ap (λ b. list_any (λ s. (s == r) && test s) rows || (b && test r)) c ∙ ap (λ b. list_any (λ s. (s == r) && test s) rows || b) passes
          ∙ truly (list_any (λ s. (s == r) && test s) rows)

      apart : (i : ℕ) → (r ≡ i → ⊥) → ((r == i) && test r) ≡ false
      apart i differs = let c : (r == i) ≡ false = grind (arith, nat_tests) in ap (λ b. b && test r) c

every : (i : ℕ) (rows : List ℕ) → list_any (λ r. (r == i) && true) rows ≡ list_any (λ r. r == i) rows
every i [] = refl
every i (r ∷ rows) = ap (λ b. b || list_any (λ r. (r == i) && true) rows) (same (r == i)) ∙ ap (λ b. (r == i) || b) (every i rows)
  where
    same : (b : Bool) → (b && true) ≡ b
    same true = refl
    same false = refl

pub put-none : (before : List Bool) (rows : List ℕ) → rows ≡ [] → Put rows before before
put-none before rows is = record { count = refl; each = λ i. sym (ap (λ l. get_or before i false || list_any (λ r. r == i) l) is ∙ or_false (get_or before i false)) }

pub put-more : (rows all : List ℕ) (r : ℕ) (before after : List Bool) → all ≡ rows ++ r ∷ [] → r < length after → Put rows before after → Put all before (set after r true)
put-more rows all r before after is lt was =
    let more = where-passed (λ s. true) rows all r before after is (record { count = was.count; each = λ i. was.each i ∙ ap (λ b. get_or before i false || b) (sym (every i rows)) }) refl lt in
    record { count = more.count; each = λ i. more.each i ∙ ap (λ b. get_or before i false || b) (every i all) }

-- ---- many at once

pub put-both : (a b all : List ℕ) (s t u : List Bool) → all ≡ a ++ b → Put a s t → Put b t u → Put all s u
put-both a b all s t u is first second = record {
  count = second.count ∙ first.count;
  each = λ i. second.each i ∙ ap (λ x. x || list_any (λ r. r == i) b) (first.each i) ∙ regroups (get_or s i false) (list_any (λ r. r == i) a) (list_any (λ r. r == i) b)
      ∙ ap (λ x. get_or s i false || x) (sym (ap (list_any (λ r. r == i)) is ∙ list_any-append (λ r. r == i) a b));
}
  where
    regroups : (x y z : Bool) → ((x || y) || z) ≡ (x || (y || z))
    regroups true y z = refl
    regroups false y z = refl

nothing-left : (n : ℕ) → drop {A = ℕ} n [] ≡ []
nothing-left zero = refl
nothing-left (suc n) = refl

drop-drop : (n m : ℕ) (l : List ℕ) → drop n (drop m l) ≡ drop (m + n) l
drop-drop n zero l = let z : n ≡ 0 + n = omega arith in ap (λ k. drop k l) z
drop-drop n (suc m) [] = let z : suc m + n ≡ suc (m + n) = omega arith in nothing-left n ∙ sym (ap (λ k. drop {A = ℕ} k []) z)
drop-drop n (suc m) (x ∷ l) = let z : suc m + n ≡ suc (m + n) = omega arith in drop-drop n m l ∙ sym (ap (λ k. drop k (x ∷ l)) z)

pub slices-joined : (rows : List ℕ) (from k to : ℕ) → from ≤ k → k ≤ to → slice_range rows from to ≡ slice_range rows from k ++ slice_range rows k to
slices-joined rows from k to le le' =
    let whole : (k - from) + (to - k) ≡ to - from = omega (arith, le, le') in
    let behind : from + (k - from) ≡ k = omega (arith, le) in
    ap (λ n. take n (drop from rows)) (sym whole) ∙ take-add (k - from) (to - k) (drop from rows)
    ∙ ap (λ l. take (k - from) (drop from rows) ++ take (to - k) l) (drop-drop (k - from) from rows ∙ ap (λ n. drop n rows) behind)

-- the next of those from one place on
pub next : (rows : List ℕ) (from k r : ℕ) → from ≤ k → k < length rows → r ≡ get_or rows k r → slice_range rows from (k + 1) ≡ slice_range rows from k ++ r ∷ []
next rows from k r le lt is =
    let n = k - from in
    let more : k + 1 - from ≡ n + 1 = omega (arith, le) in
    let at : from + n ≡ k = omega (arith, le) in
    ap (λ m. take m (drop from rows)) more ∙ take_more (drop from rows) n r (omega (arith, le, lt, length-drop from rows))
    ∙ ap (λ x. take n (drop from rows) ++ x ∷ []) (get_or-drop from rows n r ∙ ap (λ j. get_or rows j r) at ∙ sym is)

-- ---- by what each row has

module _ {V : Type 0} (none : V) (values : List V) (test : V → Bool) (rows : List ℕ) (all : AreAll rows) (long : length rows ≡ length values) (before after : List Bool) where
  pub adds-where : PutWhere (λ r. test (get_or values r none)) rows before after → Adds test values before after
  adds-where put = record {
    count = put.count;
    each = λ i v lt.
        put.each i ∙ ap (λ b. get_or before i false || b)
        (told rows all (λ r. test (get_or values r none)) i (omega (arith, lt, long)) ∙ ap test (default values i none v lt));
  }
    where
      default : (vs : List V) (i : ℕ) (a b : V) → i < length vs → get_or vs i a ≡ get_or vs i b
      default [] i a b lt = absurd (omega (arith, lt))
      default (x ∷ vs) zero a b lt = refl
      default (x ∷ vs) (suc i) a b lt = default vs i a b (omega (arith, lt))

  -- rows that stand side by side are those whose value passes
  pub adds-between : (from to : ℕ)
      → ((j r : ℕ) → j < from → j < length rows → test (get_or values (get_or rows j r) none) ≡ false)
      → ((j r : ℕ) → from ≤ j → j < to → j < length rows → test (get_or values (get_or rows j r) none) ≡ true)
      → ((j r : ℕ) → to ≤ j → j < length rows → test (get_or values (get_or rows j r) none) ≡ false)
      → Put (slice_range rows from to) before after → Adds test values before after
  adds-between from to low mid high put = adds-where (record {
    count = put.count;
    each = λ i.
        put.each i ∙ ap (λ b. get_or before i false || b)
        (sym (between (λ r. r == i) (λ r. test (get_or values r none)) rows from (to - from) low
        (λ j r le lt lt'. mid j r le (omega (arith, le, lt)) lt')
        (λ j r le lt. high j r (omega (arith, le)) lt)));
  })
