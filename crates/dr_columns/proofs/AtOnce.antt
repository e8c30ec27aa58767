-- What is told of rows many at once.
use Rattle.std.proofs.Common.{◌≡◌, ◌∙◌, sym, refl, ap, ℕ, zero, suc, ◌+◌, ◌-◌, ◌<◌, ◌≤◌, ◌&&◌, not, Bool, true, false, List, [], ◌∷◌, ◌++◌, length, get_or, map, arith}
use Rattle.std.specs.List.{range_with_len}
use Rattle.std.proofs.Math.ListN.{get_or-map}
use Rattle.std.proofs.lemmas.List.{length-map, get_or_default}
use Rattle.std.proofs.lemmas.List.FromFn.{map-range_with_len_more, length-map-range_with_len, get_or-map-range_with_len}
use Rattle.dr_columns.specs.Rows.{Narrows}

pub ranged-none : {X : Type 0} (f : ℕ → X) (from to : ℕ) → to ≡ from → map f (range_with_len from (to - from)) ≡ []
ranged-none f from to e = let z : to - from ≡ 0 = omega (arith, e) in ap (λ n. map f (range_with_len from n)) z

pub ranged-more : {X : Type 0} (f : ℕ → X) (from i : ℕ) (xs ys : List X) (x : X) → from ≤ i → ys ≡ xs ++ x ∷ [] → xs ≡ map f (range_with_len from (i - from)) → x ≡ f i → ys ≡ map f (range_with_len from (i + 1 - from))
ranged-more f from i xs ys x le pushed was is =
    let more : i + 1 - from ≡ (i - from) + 1 = omega (arith, le) in
    pushed ∙ ap (λ l. l ++ x ∷ []) was ∙ ap (λ y. map f (range_with_len from (i - from)) ++ y ∷ []) is
    ∙ sym (map-range_with_len_more f from (i - from) i (omega (arith, le))) ∙ ap (λ n. map f (range_with_len from n)) (sym more)

ranged-cat : {X : Type 0} (f : ℕ → X) (a m n b : ℕ) → a + m ≡ b → map f (range_with_len a m) ++ map f (range_with_len b n) ≡ map f (range_with_len a (m + n))
ranged-cat f a zero n b e = let same : b ≡ a = omega (arith, e) in let z : n ≡ 0 + n = omega arith in ap (λ k. map f (range_with_len k n)) same ∙ ap (λ m. map f (range_with_len a m)) z
ranged-cat f a (suc m) n b e = let s : suc (m + n) ≡ suc m + n = omega arith in ap (λ l. f a ∷ l) (ranged-cat f (a + 1) m n b (omega (arith, e))) ∙ ap (λ k. map f (range_with_len a k)) s

pub ranged-joined : {X : Type 0} (f : ℕ → X) (mid to : ℕ) (xs ys : List X) → mid ≤ to → ys ≡ xs ++ map f (range_with_len mid (to - mid)) → xs ≡ map f (range_with_len 0 mid) → ys ≡ map f (range_with_len 0 to)
ranged-joined f mid to xs ys le is was =
    let n : mid + (to - mid) ≡ to = omega (arith, le) in
    is ∙ ap (λ l. l ++ map f (range_with_len mid (to - mid))) was ∙ ranged-cat f 0 mid (to - mid) mid (omega arith) ∙ ap (λ k. map f (range_with_len 0 k)) n

-- one more failure, as a set tells it of one row more
pub failed-more : {X : Type 0} (p : X → Bool) (f : ℕ → X) (from n i : ℕ) (told : List Bool) (before xs ys : List Bool)
    → i < n → told ≡ map p (map f (range_with_len from n)) → ys ≡ xs ++ not (get_or told i false) ∷ [] → xs ≡ before ++ map (λ j. not (p (f j))) (range_with_len from i)
    → ys ≡ before ++ map (λ j. not (p (f j))) (range_with_len from (i + 1))
failed-more p f from n i told before xs ys lt is pushed was =
    let rows = map f (range_with_len from n) in
    let long : i < length rows = omega (arith, lt, length-map-range_with_len f from n) in
    let here = ap (λ l. get_or l i false) is ∙ get_or_default (map p rows) i false (p (f from)) (omega (arith, long, length-map rows p)) ∙ get_or-map p rows i (f from)
    ∙ ap p (get_or-map-range_with_len f from n i (from + i) (f from) lt refl) in
    pushed ∙ ap (λ b. xs ++ not b ∷ []) here ∙ ap (λ l. l ++ not (p (f (from + i))) ∷ []) was
    ∙ regroups before (map (λ j. not (p (f j))) (range_with_len from i)) (not (p (f (from + i))) ∷ [])
    ∙ ap (λ l. before ++ l) (sym (map-range_with_len_more (λ j. not (p (f j))) from i (from + i) refl))
  where
    regroups : (a b c : List Bool) → (a ++ b) ++ c ≡ a ++ (b ++ c)
    regroups [] b c = refl
    regroups (x ∷ a) b c = ap (λ l. x ∷ l) (regroups a b c)

-- what doesn't fail is kept
pub kept : (test : ℕ → Bool) (n : ℕ) (failed before after : List Bool) → failed ≡ map (λ i. not (test i)) (range_with_len 0 n) → length before ≡ n
    → Narrows (λ i. not (get_or failed i false)) before after → Narrows test before after
kept test n failed before after is long was = record {
  count = was.count;
  each = λ i lt. was.each i lt ∙ ap (λ b. get_or before i false && b) (ap (λ l. not (get_or l i false)) is ∙ ap not (get_or-map-range_with_len (λ i. not (test i)) 0 n i i false (omega (arith, lt, long)) (omega arith)) ∙ twice (test i));
}
  where
    twice : (b : Bool) → not (not b) ≡ b
    twice true = refl
    twice false = refl
