-- A search among intervals that rise and stand apart, and joining one more to them.
use Rattle.std.proofs.Common.{◌≡◌, ◌∙◌, sym, refl, ap, ◌⊎◌, inl, inr, Bool, true, false, ◌&&◌, ◌||◌, ℕ, ◌+◌, ◌-◌, ◌<◌, ◌≤◌, zero, suc, List, [], ◌∷◌, ◌++◌, length, get_or, take, drop, slice_set, subst, ℤ, ◌≤ℤ◌, ◌<ℤ◌, int_le, int_lt, Option, Some, None, arith}
use Rattle.std.specs.Int.{int_max}
use Rattle.std.specs.List.{AllByRecursion, AllWithin}
use Rattle.std.specs.List.Sorted.{IsPartitionedBy, IsPermutation, IsSortedByKey}
use Rattle.std.specs.Ordering.{int_cmp, is_lt}
use Rattle.std.proofs.lemmas.Grind.{common_steps}
use Rattle.std.proofs.lemmas.Int.{ints, by_lt_z}
use native.Mathlib.Numerals.{unary_clauses}
use Rattle.std.proofs.lemmas.List.Folds.{list_any-append, list_any_more}
use Rattle.std.proofs.lemmas.List.{drop_more}
use Rattle.std.proofs.lemmas.List.Sorted.{list_any-IsPermutation}
use Rattle.dr_time.specs.declared.interval.Interval.{Interval}
use Rattle.dr_time.specs.Interval.{holds_time, is_empty, first_time, first_time_from}
use Rattle.dr_time.specs.Union.{HoldsAll, union_holds}
use Rattle.dr_time.specs.Joined.{AreApart, Rise, HoldSame, longer}
use Rattle.dr_time.specs.Shared.{shared_with}
use Rattle.dr_time.specs.Laws.{IsFirstTime}
use Rattle.dr_time.proofs.UnionLemmas.{IsFirstTime-same, either}
use Rattle.std.proofs.lemmas.Bool.{or_right}

-- ---- the first time is one

first_of_two : (P : ℤ → Bool) (a b : ℤ) → IsFirstTime P (Some a) → IsFirstTime P (Some b) → a ≡ b
first_of_two P a b p q = let low = p.1 b q.0 in let high = q.1 a p.0 in omega (arith, ints)

pub first-unique : (P : ℤ → Bool) (a b : Option ℤ) → IsFirstTime P a → IsFirstTime P b → a ≡ b
first-unique P None None p q = refl
first-unique P None (Some b) p q = absurd (cc (p b, q.0))
first-unique P (Some a) None p q = absurd (cc (q a, p.0))
first-unique P (Some a) (Some b) p q = ap Some (first_of_two P a b p q)

-- ---- one interval

below : (s e t : ℤ) → int_le s t ≡ false → int_le s t && int_lt t e ≡ false
below s e t h = rw h refl

above : (s e t : ℤ) → e ≤ℤ t → int_le s t && int_lt t e ≡ false
above s e t h = grind (arith, ints)

started : (s e t : ℤ) → int_le s t ≡ true → int_le s t && int_lt t e ≡ int_lt t e
started s e t h = rw h refl

pub or_none : (a : Bool) → a || false ≡ a
or_none true = refl
or_none false = refl

-- ---- places

pub all_at : (P : Interval → Type 0) (is : List Interval) (k : ℕ) (d : Interval) → AllByRecursion P is → k < length is → P (get_or is k d)
all_at P [] k d all lt = absurd (omega arith)
all_at P (i ∷ is) zero d all lt = all.0
all_at P (i ∷ is) (suc k) d all lt = all_at P is k d all.1 (omega arith)

starts-rise : (is : List Interval) (i j : ℕ) (d : Interval) → AreApart is → i ≤ j → j < length is → (get_or is i d).start ≤ℤ (get_or is j d).start
starts-rise [] i j d apart le lt = absurd (omega arith)
starts-rise (x ∷ is) zero zero d apart le lt = omega (arith, ints)
starts-rise (x ∷ is) zero (suc j) d apart le lt =
    let some = apart.0 in let next = all_at (λ y. x.end <ℤ y.start) is j d apart.1 (omega arith) in omega (arith, ints)
starts-rise (x ∷ is) (suc i) zero d apart le lt = absurd (omega arith)
starts-rise (x ∷ is) (suc i) (suc j) d apart le lt = starts-rise is i j d apart.2 (omega arith) (omega arith)

pub some_at : (is : List Interval) (i : ℕ) (d : Interval) → AreApart is → i < length is → (get_or is i d).start <ℤ (get_or is i d).end
some_at [] i d apart lt = absurd (omega arith)
some_at (x ∷ is) zero d apart lt = apart.0
some_at (x ∷ is) (suc i) d apart lt = some_at is i d apart.2 (omega arith)

ends-rise : (is : List Interval) (i j : ℕ) (d : Interval) → AreApart is → i ≤ j → j < length is → (get_or is i d).end ≤ℤ (get_or is j d).end
ends-rise [] i j d apart le lt = absurd (omega arith)
ends-rise (x ∷ is) zero zero d apart le lt = omega (arith, ints)
ends-rise (x ∷ is) zero (suc j) d apart le lt =
    let next = all_at (λ y. x.end <ℤ y.start) is j d apart.1 (omega arith) in let some = some_at is j d apart.2 (omega arith) in omega (arith, ints)
ends-rise (x ∷ is) (suc i) zero d apart le lt = absurd (omega arith)
ends-rise (x ∷ is) (suc i) (suc j) d apart le lt = ends-rise is i j d apart.2 (omega arith) (omega arith)

le_back : (a b t : ℤ) → a ≤ℤ b → int_le b t ≡ true → int_le a t ≡ true
le_back a b t le h = grind (arith, ints)

pub starts-part : (is : List Interval) (t : ℤ) → AreApart is → IsPartitionedBy (λ i. int_le i.start t) is
starts-part is t apart i j d le lt h = le_back (get_or is i d).start (get_or is j d).start t (starts-rise is i j d apart le lt) h

pub ends-part : (is : List Interval) (t : ℤ) → AreApart is → IsPartitionedBy (λ i. int_le i.end t) is
ends-part is t apart i j d le lt h = le_back (get_or is i d).end (get_or is j d).end t (ends-rise is i j d apart le lt) h

-- ---- whether a time is held

pub none_started : (t : ℤ) (is : List Interval) → AllWithin (λ i. int_le i.start t ≡ false) is 0 (length is) → union_holds is t ≡ false
none_started t [] high = refl
none_started t (i ∷ is) high =
    let here = below i.start i.end t (high 0 i (omega arith) (omega arith)) in
    rw here (none_started t is (λ k d le lt. high (suc k) d (omega arith) (omega arith)))

pub last_started : (t : ℤ) (is : List Interval) (k : ℕ) (d : Interval) → AreApart is → k < length is → AllWithin (λ i. int_le i.start t ≡ true) is 0 (suc k) → AllWithin (λ i. int_le i.start t ≡ false) is (suc k) (length is) → union_holds is t ≡ int_lt t (get_or is k d).end
last_started t [] k d apart lt low high = absurd (omega arith)
last_started t (i ∷ is) zero d apart lt low high =
    let here = started i.start i.end t (low 0 i (omega arith) (omega arith)) in
    rw (here, none_started t is (λ k e le lt_k. high (suc k) e (omega arith) (omega arith))) (or_none (int_lt t i.end))
last_started t (i ∷ is) (suc k) d apart lt low high =
    let next = all_at (λ y. i.end <ℤ y.start) is k d apart.1 (omega arith) in
    let begun = low (suc k) d (omega arith) (omega arith) in
    let past : i.end ≤ℤ t = grind (arith, ints) in
    rw (above i.start i.end t past) (last_started t is k d apart.2 (omega arith) (λ j e le lt_j. low (suc j) e (omega arith) (omega arith)) (λ j e le lt_j. high (suc j) e (omega arith) (omega arith)))

-- ---- the first time

in_low : (s e t : ℤ) → int_le s t && int_lt t e ≡ true → s ≤ℤ t
in_low s e t h = grind (arith, ints)

pub held-from : (is : List Interval) (low t : ℤ) → AllByRecursion (λ j. low <ℤ j.start) is → union_holds is t ≡ true → low <ℤ t
held-from [] low t all h = absurd (cc h)
held-from (i ∷ is) low t all h =
    either (int_le i.start t && int_lt t i.end) (union_holds is t) h
    (λ here. let at = in_low i.start i.end t here in let above_low = all.0 in omega (arith, ints))
    (λ there. held-from is low t all.1 there)

pub start-first : (i : Interval) (is : List Interval) → AreApart (i ∷ is) → IsFirstTime (union_holds (i ∷ is)) (Some i.start)
start-first i is apart =
    let some = apart.0 in
    let here : int_le i.start i.start && int_lt i.start i.end ≡ true = grind (arith, ints) in (
      rw here refl,
      λ t h. either (int_le i.start t && int_lt t i.end) (union_holds is t) h (λ at. in_low i.start i.end t at)
          (λ there. let behind = held-from is i.end t apart.1 there in omega (arith, ints)),
    )

past-none : (from s e t : ℤ) (b : Bool) → e ≤ℤ from → int_le from t && b ≡ int_le from t && ((int_le s t && int_lt t e) || b)
past-none from s e t b le = grind (arith, ints)

and_false : (a : Bool) → a && false ≡ false
and_false true = refl
and_false false = refl

pub none_from : (from : ℤ) (is : List Interval) → AllWithin (λ i. int_le i.end from ≡ true) is 0 (length is) → IsFirstTime (λ t. int_le from t && union_holds is t) None
none_from from [] low = λ t. and_false (int_le from t)
none_from from (i ∷ is) low =
    let ended = low 0 i (omega arith) (omega arith) in
    let past : i.end ≤ℤ from = grind (arith, ints) in
    IsFirstTime-same (λ t. int_le from t && union_holds is t) _ None (λ t. past-none from i.start i.end t (union_holds is t) past)
    (none_from from is (λ k d le lt. low (suc k) d (omega arith) (omega arith)))

from-here : (from s e : ℤ) (b : Bool) → s <ℤ e → from <ℤ e → int_le from (int_max from s) && ((int_le s (int_max from s) && int_lt (int_max from s) e) || b) ≡ true
from-here from s e b some lt = grind (arith, ints)

and_left : (a b : Bool) → a && b ≡ true → a ≡ true
and_left true b h = refl
and_left false b h = h

and_right : (a b : Bool) → a && b ≡ true → b ≡ true
and_right true b h = h
and_right false b h = absurd (cc h)

pub first_from-at : (from : ℤ) (is : List Interval) (k : ℕ) (d : Interval) → AreApart is → k < length is → AllWithin (λ i. int_le i.end from ≡ true) is 0 k → AllWithin (λ i. int_le i.end from ≡ false) is k (length is) → IsFirstTime (λ t. int_le from t && union_holds is t) (Some (int_max from (get_or is k d).start))
first_from-at from [] k d apart lt low high = absurd (omega arith)
first_from-at from (i ∷ is) zero d apart lt low high =
    let unended = high 0 i (omega arith) (omega arith) in
    let before_end : from <ℤ i.end = grind (arith, ints) in
    let first = start-first i is apart in (
      from-here from i.start i.end (union_holds is (int_max from i.start)) apart.0 before_end,
      λ t h. let not_before = and_left (int_le from t) (union_holds (i ∷ is) t) h in
          let held = first.1 t (and_right (int_le from t) (union_holds (i ∷ is) t) h) in grind (arith, ints),
    )
first_from-at from (i ∷ is) (suc k) d apart lt low high =
    let ended = low 0 i (omega arith) (omega arith) in
    let past : i.end ≤ℤ from = grind (arith, ints) in
    IsFirstTime-same (λ t. int_le from t && union_holds is t) _ (Some (int_max from (get_or is k d).start)) (λ t. past-none from i.start i.end t (union_holds is t) past)
    (first_from-at from is k d apart.2 (omega arith) (λ j e le lt_j. low (suc j) e (omega arith) (omega arith)) (λ j e le lt_j. high (suc j) e (omega arith) (omega arith)))

-- ---- the answers of a search

-- what is held behind the intervals that have started
pub held_at : (t : ℤ) (is : List Interval) (place : ℕ) (d : Interval) → AreApart is → (place ≡ 0 → ⊥) → place ≤ length is → AllWithin (λ i. int_le i.start t ≡ true) is 0 place → AllWithin (λ i. int_le i.start t ≡ false) is place (length is) → union_holds is t ≡ holds_time (get_or is (place - 1) d) t
held_at t is zero d apart some le low high = absurd (some refl)
held_at t is (suc k) d apart some le low high =
    let held = last_started t is k d apart (omega arith) low high in
    let begun = started (get_or is k d).start (get_or is k d).end t (low k d (omega arith) (omega arith)) in
    simp unary_clauses (held ∙ sym begun)

-- what is left from the first interval that hasn't ended
pub found_none : (from : ℤ) (is : List Interval) (place : ℕ) → place ≡ length is → AllWithin (λ i. int_le i.end from ≡ true) is 0 place → IsFirstTime (λ t. int_le from t && union_holds is t) None
found_none from is place end low = none_from from is (rw end at low)

-- the first time of an interval that holds one, and from a time before its end on
some_first : (i : Interval) → i.start <ℤ i.end → first_time i ≡ Some i.start
some_first i some = grind (arith, ints)

some_from : (from : ℤ) (i : Interval) → i.start <ℤ i.end → int_le i.end from ≡ false → first_time_from from i ≡ Some (int_max from i.start)
some_from from i some unended = grind (arith, ints)

pub first_of : (i : Interval) (is : List Interval) → AreApart (i ∷ is) → IsFirstTime (union_holds (i ∷ is)) (first_time i)
first_of i is apart = rw (some_first i apart.0) (start-first i is apart)

pub found_first : (from : ℤ) (is : List Interval) (place : ℕ) (d : Interval) → AreApart is → place ≤ length is → (place ≡ length is → ⊥) → AllWithin (λ i. int_le i.end from ≡ true) is 0 place → AllWithin (λ i. int_le i.end from ≡ false) is place (length is) → IsFirstTime (λ t. int_le from t && union_holds is t) (first_time_from from (get_or is place d))
found_first from is place d apart le more low high =
    let lt : place < length is = omega arith in
    rw (some_from from (get_or is place d) (some_at is place d apart lt) (high place d (omega arith) lt)) (first_from-at from is place d apart lt low high)

-- ---- joining

-- the last of a list, and those before it
before_last : (is : List Interval) (d : Interval) → (length is ≡ 0 → ⊥) → is ≡ take (length is - 1) is ++ get_or is (length is - 1) d ∷ []
before_last is d some = grind (arith, common_steps)

all-append_one : (P : Interval → Type 0) (is : List Interval) (i : Interval) → AllByRecursion P is → P i → AllByRecursion P (is ++ i ∷ [])
all-append_one P [] i all h = (h, tt)
all-append_one P (x ∷ is) i all h = (all.0, all-append_one P is i all.1 h)

all-change_last : (P : Interval → Type 0) (is : List Interval) (i j : Interval) → AllByRecursion P (is ++ i ∷ []) → (P i → P j) → AllByRecursion P (is ++ j ∷ [])
all-change_last P [] i j all h = (h all.0, tt)
all-change_last P (x ∷ is) i j all h = (all.0, all-change_last P is i j all.1 h)

all-last : (P : Interval → Type 0) (is : List Interval) (i : Interval) → AllByRecursion P (is ++ i ∷ []) → P i
all-last P [] i all = all.0
all-last P (x ∷ is) i all = all-last P is i all.1

apart-last : (is : List Interval) (i : Interval) → AreApart (is ++ i ∷ []) → i.start <ℤ i.end
apart-last [] i apart = apart.0
apart-last (x ∷ is) i apart = apart-last is i apart.2

-- one that starts behind the last one
ends_before : (is : List Interval) (i : Interval) (s : ℤ) → AreApart (is ++ i ∷ []) → i.end <ℤ s → AllByRecursion (λ j. j.end <ℤ s) (is ++ i ∷ [])
ends_before [] i s apart lt = (lt, tt)
ends_before (x ∷ is) i s apart lt =
    let next = all-last (λ j. x.end <ℤ j.start) is i apart.1 in let some = apart-last is i apart.2 in
    (omega (arith, ints), ends_before is i s apart.2 lt)

apart-push : (is : List Interval) (i : Interval) → AreApart is → AllByRecursion (λ j. j.end <ℤ i.start) is → i.start <ℤ i.end → AreApart (is ++ i ∷ [])
apart-push [] i apart before some = (some, tt, tt)
apart-push (x ∷ is) i apart before some = (apart.0, all-append_one (λ j. x.end <ℤ j.start) is i apart.1 before.0, apart-push is i apart.2 before.1 some)

pushed_behind : (front : List Interval) (last i : Interval) → AreApart (front ++ last ∷ []) → last.end <ℤ i.start → i.start <ℤ i.end → AreApart ((front ++ last ∷ []) ++ i ∷ [])
pushed_behind front last i apart lt some = apart-push (front ++ last ∷ []) i apart (ends_before front last i.start apart lt) some

pub pushed-apart : (is : List Interval) (i d : Interval) → AreApart is → (length is ≡ 0) ⊎ ((get_or is (length is - 1) d).end <ℤ i.start) → i.start <ℤ i.end → AreApart (is ++ i ∷ [])
pushed-apart [] i d apart place some = (some, tt, tt)
pushed-apart (x ∷ is) i d apart (inl none) some = absurd (omega arith)
pushed-apart (x ∷ is) i d apart (inr lt) some =
    let split = before_last (x ∷ is) d (λ e. absurd (omega arith)) in
    subst (λ xs. AreApart (xs ++ i ∷ [])) (sym split) (pushed_behind _ _ i (subst AreApart split apart) lt some)

-- the last one, with a later end
apart-longer : (is : List Interval) (i j : Interval) → AreApart (is ++ i ∷ []) → j.start ≡ i.start → i.end ≤ℤ j.end → AreApart (is ++ j ∷ [])
apart-longer [] i j apart e le = (rw e (let some = apart.0 in omega (arith, ints)), tt, tt)
apart-longer (x ∷ is) i j apart e le = (apart.0, all-change_last (λ k. x.end <ℤ k.start) is i j apart.1 (λ h. rw e h), apart-longer is i j apart.2 e le)

set_at_last : (is : List Interval) (k : ℕ) (j : Interval) → suc k ≡ length is → slice_set is k j ≡ take k is ++ j ∷ []
set_at_last [] k j e = absurd (omega arith)
set_at_last (x ∷ []) zero j e = refl
set_at_last (x ∷ y ∷ is) zero j e = absurd (omega arith)
set_at_last (x ∷ is) (suc k) j e = ap (λ xs. x ∷ xs) (set_at_last is k j (omega arith))

set_last : (is : List Interval) (j : Interval) → (length is ≡ 0 → ⊥) → slice_set is (length is - 1) j ≡ take (length is - 1) is ++ j ∷ []
set_last [] j some = absurd (some refl)
set_last (x ∷ is) j some = set_at_last (x ∷ is) (length (x ∷ is) - 1) j (omega arith)

pub longer-apart : (is : List Interval) (j d : Interval) → AreApart is → (length is ≡ 0 → ⊥) → j.start ≡ (get_or is (length is - 1) d).start → (get_or is (length is - 1) d).end ≤ℤ j.end → AreApart (slice_set is (length is - 1) j)
longer-apart is j d apart some e le =
    subst AreApart (sym (set_last is j some)) (apart-longer (take (length is - 1) is) (get_or is (length is - 1) d) j (subst AreApart (before_last is d some) apart) e le)

-- the times of two that overlap or touch
both_held : (s e from to t : ℤ) → s ≤ℤ from → from ≤ℤ e → from <ℤ to → int_le s t && int_lt t (int_max e to) ≡ (int_le s t && int_lt t e) || (int_le from t && int_lt t to)
both_held s e from to t le touch some = grind (arith, ints)

last_held : (front : List Interval) (i : Interval) (t : ℤ) → union_holds (front ++ i ∷ []) t ≡ union_holds front t || holds_time i t
last_held front i t = list_any-append (λ j. holds_time j t) front (i ∷ []) ∙ (λ k. union_holds front t || or_none (holds_time i t) k)

pub or_or : (a b c : Bool) → a || (b || c) ≡ (a || b) || c
or_or true b c = refl
or_or false b c = refl

longer_held : (front : List Interval) (i next : Interval) (t : ℤ) → i.start ≤ℤ next.start → next.start ≤ℤ i.end → next.start <ℤ next.end → union_holds (front ++ record { start = i.start; end = int_max i.end next.end } ∷ []) t ≡ union_holds (front ++ i ∷ []) t || holds_time next t
longer_held front i next t le touch some =
    last_held front (record { start = i.start; end = int_max i.end next.end }) t
    ∙ (λ k. union_holds front t || both_held i.start i.end next.start next.end t le touch some k)
    ∙ or_or (union_holds front t) (holds_time i t) (holds_time next t)
    ∙ (λ k. sym (last_held front i t) k || holds_time next t)

pub longer-held : (is : List Interval) (next d : Interval) (t : ℤ) → (length is ≡ 0 → ⊥) → (get_or is (length is - 1) d).start ≤ℤ next.start → next.start ≤ℤ (get_or is (length is - 1) d).end → next.start <ℤ next.end → union_holds (slice_set is (length is - 1) (record { start = (get_or is (length is - 1) d).start; end = int_max (get_or is (length is - 1) d).end next.end })) t ≡ union_holds is t || holds_time next t
longer-held is next d t some le touch whole =
    (λ k. union_holds (set_last is (record { start = (get_or is (length is - 1) d).start; end = int_max (get_or is (length is - 1) d).end next.end }) some k) t)
    ∙ longer_held (take (length is - 1) is) (get_or is (length is - 1) d) next t le touch whole
    ∙ (λ k. union_holds (sym (before_last is d some) k) t || holds_time next t)

-- what joining an interval to the last one, or not, says
pub not_joined : (i next : Interval) → None ≡ longer i next → i.end <ℤ next.start
not_joined i next h = grind (arith, ints)

pub some_held : (next : Interval) → is_empty next ≡ false → next.start <ℤ next.end
some_held next h = grind (arith, ints)

when_joined : (i next both : Interval) → Some both ≡ longer i next → (next.start ≤ℤ i.end) × (both ≡ record { start = i.start; end = int_max i.end next.end })
when_joined i next both h = (grind (arith, ints), grind (arith, ints))

pub max_end : (a b : ℤ) → a ≤ℤ int_max a b
max_end a b = grind (arith, ints)

pub joined-apart : (is : List Interval) (next both d : Interval) → AreApart is → (length is ≡ 0 → ⊥) → Some both ≡ longer (get_or is (length is - 1) d) next → AreApart (slice_set is (length is - 1) both)
joined-apart is next both d apart some h =
    let at = when_joined (get_or is (length is - 1) d) next both h in
    rw at.1 (longer-apart is _ d apart some refl (max_end (get_or is (length is - 1) d).end next.end))

pub joined-held : (is : List Interval) (next both d : Interval) (t : ℤ) → AllByRecursion (λ i. i.start ≤ℤ next.start) is → (length is ≡ 0 → ⊥) → Some both ≡ longer (get_or is (length is - 1) d) next → next.start <ℤ next.end → union_holds (slice_set is (length is - 1) both) t ≡ union_holds is t || holds_time next t
joined-held is next both d t rising some h whole =
    let at = when_joined (get_or is (length is - 1) d) next both h in
    rw at.1 (longer-held is next d t some (all_at (λ i. i.start ≤ℤ next.start) is (length is - 1) d rising (omega arith)) at.0 whole)

pub none_left : (o : Option Interval) → ((i : Interval) → o ≡ Some i → ⊥) → o ≡ None
none_left None not = refl
none_left (Some i) not = absurd (not i refl)

-- ---- all of them

not_below : (a b : ℤ) → is_lt (int_cmp a b) ≡ false → b ≤ℤ a
not_below a b h = grind (arith, ints)

rest_sorted : (i : Interval) (is : List Interval) → IsSortedByKey (λ j. j.start) int_cmp (i ∷ is) → IsSortedByKey (λ j. j.start) int_cmp is
rest_sorted i is up k d _ lt = let h = simp unary_clauses at (up (suc k) d (omega arith) (omega arith)) in simp unary_clauses h

all_above : (low : ℤ) (i : Interval) (is : List Interval) → IsSortedByKey (λ j. j.start) int_cmp (i ∷ is) → low ≤ℤ i.start → AllByRecursion (λ j. low ≤ℤ j.start) (i ∷ is)
all_above low i [] up le = (le, tt)
all_above low i (j ∷ is) up le =
    let next = not_below j.start i.start (up 0 i (omega arith) (omega arith)) in
    (le, all_above low j is (rest_sorted i (j ∷ is) up) (omega (arith, ints)))

pub sorted-rise : (is : List Interval) → IsSortedByKey (λ j. j.start) int_cmp is → Rise is
sorted-rise [] up = tt
sorted-rise (i ∷ []) up = (tt, tt)
sorted-rise (i ∷ j ∷ is) up =
    let next = not_below j.start i.start (up 0 i (omega arith) (omega arith)) in
    let rest = rest_sorted i (j ∷ is) up in
    (all_above i.start j is rest next, sorted-rise (j ∷ is) rest)

-- those that are joined start before all that are left
abbrev pub StartBefore : List Interval → List Interval → Type 0
StartBefore is js = AllByRecursion (λ i. AllByRecursion (λ j. i.start ≤ℤ j.start) js) is

pub heads : (is : List Interval) (j : Interval) (js : List Interval) → StartBefore is (j ∷ js) → AllByRecursion (λ i. i.start ≤ℤ j.start) is
heads [] j js all = tt
heads (i ∷ is) j js all = (all.0.0, heads is j js all.1)

later : (low high : ℤ) (js : List Interval) → low ≤ℤ high → AllByRecursion (λ j. high ≤ℤ j.start) js → AllByRecursion (λ j. low ≤ℤ j.start) js
later low high [] le all = tt
later low high (j ∷ js) le all = let at = all.0 in (omega (arith, ints), later low high js le all.1)

pub tails : (is : List Interval) (j : Interval) (js : List Interval) → AllByRecursion (λ i. i.start ≤ℤ j.start) is → AllByRecursion (λ k. j.start ≤ℤ k.start) js → StartBefore is js
tails [] j js low all = tt
tails (i ∷ is) j js low all = (later i.start j.start js low.0 all, tails is j js low.1 all)

pub next-rising : (is sorted : List Interval) (n : ℕ) (d : Interval) → n < length sorted → StartBefore is (drop n sorted) → AllByRecursion (λ i. i.start ≤ℤ (get_or sorted n d).start) is
next-rising is sorted n d lt before = heads is (get_or sorted n d) (drop (n + 1) sorted) (subst (StartBefore is) (drop_more sorted n d lt) before)

pub rest-rise : (sorted : List Interval) (n : ℕ) (d : Interval) → n < length sorted → Rise (drop n sorted) → AllByRecursion (λ j. (get_or sorted n d).start ≤ℤ j.start) (drop (n + 1) sorted) × Rise (drop (n + 1) sorted)
rest-rise sorted n d lt rise = subst Rise (drop_more sorted n d lt) rise

pub one_more_held : (is js sorted : List Interval) (n : ℕ) (d : Interval) → n < length sorted → HoldSame is (take n sorted) → ((t : ℤ) → union_holds js t ≡ union_holds is t || holds_time (get_or sorted n d) t) → HoldSame js (take (n + 1) sorted)
one_more_held is js sorted n d lt same more t =
    more t ∙ (λ k. same t k || holds_time (get_or sorted n d) t) ∙ sym (list_any_more (λ i. holds_time i t) sorted n d lt)

pub sorted-held : (is js : List Interval) → IsPermutation is js → HoldSame js is
sorted-held is js moved t = sym (list_any-IsPermutation (λ i. holds_time i t) is js moved)

-- ---- all times from one to another

-- what one of them holds is held
held_by : (is : List Interval) (k : ℕ) (d : Interval) (t : ℤ) → k < length is → holds_time (get_or is k d) t ≡ true → union_holds is t ≡ true
held_by [] k d t lt h = absurd (omega arith)
held_by (i ∷ is) zero d t lt h = rw h refl
held_by (i ∷ is) (suc k) d t lt h = or_right (holds_time i t) (union_holds is t) (held_by is k d t (omega arith) h)

not_held : (held : Bool) → (held ≡ true → ⊥) → held ≡ false
not_held true never = absurd (never refl)
not_held false never = refl

-- the end of one of them isn't
end-free : (is : List Interval) (k : ℕ) (d : Interval) → AreApart is → k < length is → union_holds is (get_or is k d).end ≡ false
end-free [] k d apart lt = absurd (omega arith)
end-free (i ∷ is) zero d apart lt =
    rw (above i.start i.end i.end (omega (arith, ints))) (not_held (union_holds is i.end) (λ h. let past = held-from is i.end i.end apart.1 h in omega (arith, ints)))
end-free (i ∷ is) (suc k) d apart lt =
    let next = all_at (λ y. i.end <ℤ y.start) is k d apart.1 (omega arith) in
    let some = some_at is k d apart.2 (omega arith) in
    rw (above i.start i.end (get_or is k d).end (omega (arith, ints))) (end-free is k d apart.2 (omega arith))

between : (s e least greatest t : ℤ) → int_le s least ≡ true → int_lt greatest e ≡ true → least ≤ℤ t → t ≤ℤ greatest → int_le s t && int_lt t e ≡ true
between s e least greatest t from to low high = grind (arith, ints)

below_end : (t e : ℤ) → int_lt t e ≡ true → t ≤ℤ e
below_end t e h = grind (arith, ints)

is_below : (t e : ℤ) → t <ℤ e → int_lt t e ≡ true
is_below t e lt = grind (arith, ints)

-- of the last of them that starts not behind the least
pub all_held : (is : List Interval) (least greatest : ℤ) (place : ℕ) (d : Interval) → (place ≡ 0 → ⊥) → place ≤ length is → AllWithin (λ i. int_le i.start least ≡ true) is 0 place
    → int_lt greatest (get_or is (place - 1) d).end ≡ true → HoldsAll is least greatest
all_held is least greatest zero d some le low h = absurd (some refl)
all_held is least greatest (suc k) d some le low h =
    let h = simp unary_clauses at h in
    λ t from to. held_by is k d t (omega arith) (between (get_or is k d).start (get_or is k d).end least greatest t (low k d (omega arith) (omega arith)) h from to)

pub ends_behind : (is : List Interval) (least greatest : ℤ) (place : ℕ) (d : Interval) → AreApart is → least ≤ℤ greatest → (place ≡ 0 → ⊥) → place ≤ length is
    → AllWithin (λ i. int_le i.start least ≡ true) is 0 place → AllWithin (λ i. int_le i.start least ≡ false) is place (length is)
    → HoldsAll is least greatest → int_lt greatest (get_or is (place - 1) d).end ≡ true
ends_behind is least greatest zero d apart rise some le low high all = absurd (some refl)
ends_behind is least greatest (suc k) d apart rise some le low high all = simp unary_clauses (behind (get_or is k d).end refl)
  where
    behind : (e : ℤ) → e ≡ (get_or is k d).end → int_lt greatest e ≡ true
    behind e same =
        by_lt_z greatest e
        (λ lt. is_below greatest e lt)
        (λ past. let begun = sym (last_started least is k d apart (omega arith) low high) ∙ all least (omega (arith, ints)) rise in
        let from = below_end least e (subst (λ x. int_lt least x ≡ true) (sym same) begun) in
        absurd (cc (sym (end-free is k d apart (omega arith)) ∙ subst (λ x. union_holds is x ≡ true) same (all e from past))))

-- where none starts before the least
pub some_started : (is : List Interval) (least greatest : ℤ) → least ≤ℤ greatest → AllWithin (λ i. int_le i.start least ≡ false) is 0 (length is) → HoldsAll is least greatest → ⊥
some_started is least greatest rise high all = absurd (cc (sym (none_started least is high) ∙ all least (omega (arith, ints)) rise))

pub not_behind : (greatest least : ℤ) → int_lt greatest least ≡ false → least ≤ℤ greatest
not_behind greatest least h = grind (arith, ints)

-- ---- the times that two of them share

not_both : (a b : Bool) → (b ≡ true → a ≡ false) → a && b ≡ false
not_both a true never = rw (never refl) refl
not_both a false never = and_false a

-- no time of an interval is held behind it
disjoint : (i : Interval) (is : List Interval) (low t : ℤ) → i.end ≤ℤ low → AllByRecursion (λ j. low <ℤ j.start) is → holds_time i t && union_holds is t ≡ false
disjoint i is low t le all =
    not_both (holds_time i t) (union_holds is t) (λ h. let past = held-from is low t all h in above i.start i.end t (omega (arith, ints)))

shared_held : (a b : Interval) (t : ℤ) → holds_time (shared_with a b) t ≡ holds_time a t && holds_time b t
shared_held a b t = grind (arith, ints)

left_ends : (x y X Y : Bool) → x && X ≡ false → x && Y ≡ false → (x || X) && (y || Y) ≡ (x && y) || (X && (y || Y))
left_ends true y true Y e f = absurd (cc e)
left_ends true y false true e f = absurd (cc f)
left_ends true true false false e f = refl
left_ends true false false false e f = refl
left_ends false y X Y e f = refl

right_ends : (x y X Y : Bool) → y && Y ≡ false → y && X ≡ false → (x || X) && (y || Y) ≡ (x && y) || ((x || X) && Y)
right_ends x true X true e f = absurd (cc e)
right_ends x true true false e f = absurd (cc f)
right_ends true true false false e f = refl
right_ends false true false false e f = refl
right_ends true false true Y e f = refl
right_ends true false false Y e f = refl
right_ends false false true Y e f = refl
right_ends false false false Y e f = refl

-- the one that ends first shares no more time with those behind the other
first_ends : (a b : Interval) (is js : List Interval) (t : ℤ) → AreApart (a ∷ is) → AreApart (b ∷ js) → a.end ≤ℤ b.end
    → union_holds (a ∷ is) t && union_holds (b ∷ js) t ≡ holds_time (shared_with a b) t || (union_holds is t && union_holds (b ∷ js) t)
first_ends a b is js t apart_a apart_b le =
    rw (shared_held a b t) (left_ends (holds_time a t) (holds_time b t) (union_holds is t) (union_holds js t)
    (disjoint a is a.end t (omega (arith, ints)) apart_a.1) (disjoint a js b.end t le apart_b.1))

second_ends : (a b : Interval) (is js : List Interval) (t : ℤ) → AreApart (a ∷ is) → AreApart (b ∷ js) → b.end ≤ℤ a.end
    → union_holds (a ∷ is) t && union_holds (b ∷ js) t ≡ holds_time (shared_with a b) t || (union_holds (a ∷ is) t && union_holds js t)
second_ends a b is js t apart_a apart_b le =
    rw (shared_held a b t) (right_ends (holds_time a t) (holds_time b t) (union_holds is t) (union_holds js t)
    (disjoint b js b.end t (omega (arith, ints)) apart_b.1) (disjoint b is a.end t le apart_a.1))

-- what some intervals share, and those that are left of both, hold all that both hold
abbrev pub Share : List Interval → List Interval → List Interval → List Interval → List Interval → Type 0
Share all others shared is js = (t : ℤ) → union_holds shared t || (union_holds is t && union_holds js t) ≡ union_holds all t && union_holds others t

-- one more of what they share, behind which the intervals of one of them go on
module _ (all others shared more : List Interval) (a b : Interval) (is js : List Interval) (held : (t : ℤ) → union_holds more t ≡ union_holds shared t || holds_time (shared_with a b) t) (share : Share all others shared (a ∷ is) (b ∷ js)) where
  one_more_shared : (t : ℤ) (rest : Bool) → union_holds (a ∷ is) t && union_holds (b ∷ js) t ≡ holds_time (shared_with a b) t || rest → union_holds more t || rest ≡ union_holds all t && union_holds others t
  one_more_shared t rest h =
      (λ k. held t k || rest) ∙ sym (or_or (union_holds shared t) (holds_time (shared_with a b) t) rest) ∙ (λ k. union_holds shared t || sym h k) ∙ share t

  first_left : AreApart (a ∷ is) → AreApart (b ∷ js) → a.end ≤ℤ b.end → Share all others more is (b ∷ js)
  first_left apart_a apart_b le = λ t. one_more_shared t (union_holds is t && union_holds (b ∷ js) t) (first_ends a b is js t apart_a apart_b le)

  second_left : AreApart (a ∷ is) → AreApart (b ∷ js) → b.end ≤ℤ a.end → Share all others more (a ∷ is) js
  second_left apart_a apart_b le = λ t. one_more_shared t (union_holds (a ∷ is) t && union_holds js t) (second_ends a b is js t apart_a apart_b le)

pub start_by : (low high : ℤ) (is : List Interval) → low ≤ℤ high → AllByRecursion (λ i. i.start ≤ℤ low) is → AllByRecursion (λ i. i.start ≤ℤ high) is
start_by low high [] le all = tt
start_by low high (i ∷ is) le all = let at = all.0 in (omega (arith, ints), start_by low high is le all.1)

max_rises : (a b c : ℤ) → a ≤ℤ c → int_max a b ≤ℤ int_max c b
max_rises a b c le = grind (arith, ints)

max_rises_behind : (a b c : ℤ) → b ≤ℤ c → int_max a b ≤ℤ int_max a c
max_rises_behind a b c le = grind (arith, ints)

-- the intervals from some place on, and those that are left when both have been gone through
module _ (d : Interval) where
  -- what is shared starts not behind the two that are next
  abbrev pub StartsBefore : List Interval → List Interval → List Interval → ℕ → ℕ → Type 0
  StartsBefore shared all others i j = i < length all → j < length others → AllByRecursion (λ s. s.start ≤ℤ (shared_with (get_or all i d) (get_or others j d)).start) shared

  abbrev pub Shares : List Interval → List Interval → List Interval → ℕ → ℕ → Type 0
  Shares all others shared i j = AreApart (drop i all) × AreApart (drop j others) × Share all others shared (drop i all) (drop j others) × StartsBefore shared all others i j

  module _ (all others shared more : List Interval) (i j : ℕ) (lt_i : i < length all) (lt_j : j < length others) (apart : AreApart all) (apart_others : AreApart others)
      (rising : AllByRecursion (λ s. s.start ≤ℤ (shared_with (get_or all i d) (get_or others j d)).start) more)
      (held : (t : ℤ) → union_holds more t ≡ union_holds shared t || holds_time (shared_with (get_or all i d) (get_or others j d)) t) (was : Shares all others shared i j) where
    whole : Share all others shared (get_or all i d ∷ drop (i + 1) all) (get_or others j d ∷ drop (j + 1) others)
    whole t = (λ k. union_holds shared t || (union_holds (sym (drop_more all i d lt_i) k) t && union_holds (sym (drop_more others j d lt_j) k) t)) ∙ was.2 t

    whole_i : AreApart (get_or all i d ∷ drop (i + 1) all)
    whole_i = subst AreApart (drop_more all i d lt_i) was.0

    whole_j : AreApart (get_or others j d ∷ drop (j + 1) others)
    whole_j = subst AreApart (drop_more others j d lt_j) was.1

    pub first-done : (get_or all i d).end ≤ℤ (get_or others j d).end → Shares all others more (i + 1) j
    first-done le = (
      whole_i.2,
      was.1,
      (λ t. (λ k. union_holds more t || (union_holds (drop (i + 1) all) t && union_holds (drop_more others j d lt_j k) t))
          ∙ first_left all others shared more (get_or all i d) (get_or others j d) (drop (i + 1) all) (drop (j + 1) others) held whole whole_i whole_j le t),
      λ lt lt_js. start_by _ _ more (max_rises (get_or all i d).start (get_or others j d).start (get_or all (i + 1) d).start (starts-rise all i (i + 1) d apart (omega arith) lt)) rising,
    )

    pub second-done : (get_or others j d).end ≤ℤ (get_or all i d).end → Shares all others more i (j + 1)
    second-done le = (
      was.0,
      whole_j.2,
      (λ t. (λ k. union_holds more t || (union_holds (drop_more all i d lt_i k) t && union_holds (drop (j + 1) others) t))
          ∙ second_left all others shared more (get_or all i d) (get_or others j d) (drop (i + 1) all) (drop (j + 1) others) held whole whole_i whole_j le t),
      λ lt_is lt. start_by _ _ more (max_rises_behind (get_or all i d).start (get_or others j d).start (get_or others (j + 1) d).start (starts-rise others j (j + 1) d apart_others (omega arith) lt)) rising,
    )

pub not_after : (a b : ℤ) → int_le a b ≡ true → a ≤ℤ b
not_after a b h = grind (arith, ints)

pub not_before : (a b : ℤ) → int_le a b ≡ false → b ≤ℤ a
not_before a b h = grind (arith, ints)
