-- The times of an interval that others lack, and those of a union that another one lacks.
use Rattle.std.proofs.Common.{◌≡◌, ◌∙◌, sym, refl, Bool, true, false, ◌&&◌, ◌||◌, not, ℕ, ◌+◌, ◌-◌, ◌<◌, ◌≤◌, zero, suc, List, [], ◌∷◌, length, get_or, drop, subst, ℤ, ◌≤ℤ◌, ◌<ℤ◌, int_le, int_lt, arith}
use Rattle.std.specs.Int.{int_max}
use Rattle.std.specs.List.{AllByRecursion}
use Rattle.std.proofs.lemmas.Int.{ints}
use Rattle.std.proofs.lemmas.List.{drop_more, drop_all}
use Rattle.dr_time.specs.declared.interval.Interval.{Interval}
use Rattle.dr_time.specs.Interval.{holds_time}
use Rattle.dr_time.specs.Union.{union_holds}
use Rattle.dr_time.specs.Gaps.{AreGaps}
use Rattle.dr_time.specs.Joined.{AreApart}
use Rattle.dr_time.specs.Shared.{AreShared, AreLeft}
use Rattle.dr_time.proofs.JoinedLemmas.{start_by, start-first, held-from, all_at, some_at, max_end, or_or, or_none}
use Rattle.dr_time.proofs.UnionLemmas.{either}

-- ---- gap by gap

abbrev pub StartBy : ℤ → List Interval → Type 0
StartBy high is = AllByRecursion (λ i. i.start ≤ℤ high) is

-- the gaps so far, and what the others that are left lack from some time on, are what all of the others lack
abbrev pub AreGapsUpTo : Interval → List Interval → List Interval → ℤ → List Interval → Type 0
AreGapsUpTo within all gaps from rest = (t : ℤ) → holds_time within t ≡ true → union_holds gaps t || (int_le from t && not (union_holds rest t)) ≡ not (union_holds all t)

-- before an interval, or behind it
around_one : (from s e t : ℤ) (rest : Bool) → s <ℤ e → (rest ≡ true → e <ℤ t) → (int_le from t && int_lt t s) || (int_le (int_max from e) t && not rest) ≡ int_le from t && not ((int_le s t && int_lt t e) || rest)
around_one from s e t true some behind = let past = behind refl in grind (arith, ints)
around_one from s e t false some behind = grind (arith, ints)

around_first : (from t : ℤ) (i : Interval) (is : List Interval) → AreApart (i ∷ is) → (int_le from t && int_lt t i.start) || (int_le (int_max from i.end) t && not (union_holds is t)) ≡ int_le from t && not (union_holds (i ∷ is) t)
around_first from t i is apart = around_one from i.start i.end t (union_holds is t) apart.0 (λ held. held-from is i.end t apart.1 held)

one_more_gap : (within : Interval) (all gaps more : List Interval) (from : ℤ) (i : Interval) (is : List Interval) → AreApart (i ∷ is)
    → ((t : ℤ) → union_holds more t ≡ union_holds gaps t || (int_le from t && int_lt t i.start)) → AreGapsUpTo within all gaps from (i ∷ is) → AreGapsUpTo within all more (int_max from i.end) is
one_more_gap within all gaps more from i is apart held was t inside =
    (λ k. held t k || (int_le (int_max from i.end) t && not (union_holds is t)))
    ∙ sym (or_or (union_holds gaps t) (int_le from t && int_lt t i.start) (int_le (int_max from i.end) t && not (union_holds is t)))
    ∙ (λ k. union_holds gaps t || around_first from t i is apart k)
    ∙ was t inside

pub next-gap : (within : Interval) (all gaps more : List Interval) (from : ℤ) (n : ℕ) (d : Interval) → n < length all → AreApart (drop n all) → StartBy from more
    → ((t : ℤ) → union_holds more t ≡ union_holds gaps t || (int_le from t && int_lt t (get_or all n d).start)) → AreGapsUpTo within all gaps from (drop n all)
    → StartBy (int_max from (get_or all n d).end) more × AreApart (drop (n + 1) all) × AreGapsUpTo within all more (int_max from (get_or all n d).end) (drop (n + 1) all)
next-gap within all gaps more from n d lt apart rising held was =
    let whole = subst AreApart (drop_more all n d lt) apart in (
      start_by from (int_max from (get_or all n d).end) more (max_end from (get_or all n d).end) rising,
      whole.2,
      one_more_gap within all gaps more from (get_or all n d) (drop (n + 1) all) whole held (subst (AreGapsUpTo within all gaps from) (drop_more all n d lt) was),
    )

up_to_end : (s e from t : ℤ) (found : Bool) → int_le s t && int_lt t e ≡ true → found || (int_le from t && int_lt t e) ≡ found || (int_le from t && true)
up_to_end s e from t found inside = grind (arith, ints)

pub last-gap : (within : Interval) (all gaps more : List Interval) (from : ℤ) (n : ℕ) → length all ≤ n
    → ((t : ℤ) → union_holds more t ≡ union_holds gaps t || (int_le from t && int_lt t within.end)) → AreGapsUpTo within all gaps from (drop n all) → AreGaps within all more
last-gap within all gaps more from n le held was t inside =
    held t ∙ up_to_end within.start within.end from t (union_holds gaps t) inside ∙ subst (AreGapsUpTo within all gaps from) (drop_all n all le) was t inside

-- ---- what is left

below_end : (s e t : ℤ) → int_le s t && int_lt t e ≡ true → t <ℤ e
below_end s e t h = grind (arith, ints)

inside : (s e t : ℤ) → s ≤ℤ t → t <ℤ e → int_le s t && int_lt t e ≡ true
inside s e t low high = grind (arith, ints)

-- each time that is held lies before the last end
before_last_end : (is : List Interval) (k : ℕ) (d : Interval) (t : ℤ) → AreApart is → suc k ≡ length is → union_holds is t ≡ true → t <ℤ (get_or is k d).end
before_last_end [] k d t apart len h = absurd (omega arith)
before_last_end (i ∷ []) zero d t apart len h = below_end i.start i.end t (sym (or_none (holds_time i t)) ∙ h)
before_last_end (i ∷ j ∷ is) zero d t apart len h = absurd (omega arith)
before_last_end (i ∷ is) (suc k) d t apart len h =
    let next = all_at (λ j. i.end <ℤ j.start) is k d apart.1 (omega arith) in
    let some = some_at is k d apart.2 (omega arith) in
    either (holds_time i t) (union_holds is t) h
    (λ here. let low = below_end i.start i.end t here in omega (arith, ints))
    (λ there. before_last_end is k d t apart.2 (omega arith) there)

-- from the first start to the last end
held_within : (is : List Interval) (d : Interval) (t : ℤ) → AreApart is → 0 < length is → union_holds is t ≡ true → holds_time (record { start = (get_or is 0 d).start; end = (get_or is (length is - 1) d).end }) t ≡ true
held_within [] d t apart some h = absurd (omega arith)
held_within (i ∷ is) d t apart some h =
    let low = (start-first i is apart).1 t h in
    inside i.start (get_or (i ∷ is) (length (i ∷ is) - 1) d).end t low (before_last_end (i ∷ is) (length (i ∷ is) - 1) d t apart (omega arith) h)

and_same : (a b c : Bool) → (a ≡ true → b ≡ c) → a && b ≡ a && c
and_same true b c same = same refl
and_same false b c same = refl

pub left-between : (is js gaps left : List Interval) (d : Interval) → AreApart is → 0 < length is
    → AreGaps (record { start = (get_or is 0 d).start; end = (get_or is (length is - 1) d).end }) js gaps → AreShared is gaps left → AreLeft is js left
left-between is js gaps left d apart some gap shared t =
    shared t ∙ and_same (union_holds is t) (union_holds gaps t) (not (union_holds js t)) (λ held. gap t (held_within is d t apart some held))
