-- The earliest of the first times of some tests is the first time that passes one of them.
use Rattle.std.proofs.Common.{◌≡◌, Bool, true, false, ◌&&◌, ◌||◌, List, [], ◌∷◌, map, ℤ, ◌≤ℤ◌, ◌<ℤ◌, int_le, int_lt, Option, Some, None, refl, sym, ◌∙◌, arith}
use Rattle.std.specs.Int.{int_min, int_max}
use Rattle.std.specs.List.{list_any, fold}
use Rattle.std.proofs.lemmas.Int.{ints, by_lt_z}
use Rattle.dr_time.specs.declared.interval.Interval.{Interval}
use Rattle.dr_time.specs.Interval.{holds_time, first_time, first_time_from}
use Rattle.dr_time.specs.Union.{union_holds, earlier, union_start, union_first_from}
use Rattle.dr_time.specs.Laws.{IsFirstTime}
use Rattle.std.proofs.lemmas.Bool.{or_right}

pub IsFirstTime-same : (P Q : ℤ → Bool) (o : Option ℤ) → ((t : ℤ) → P t ≡ Q t) → IsFirstTime P o → IsFirstTime Q o
IsFirstTime-same P Q None same h = λ t. sym (same t) ∙ h t
IsFirstTime-same P Q (Some a) same h = (sym (same a) ∙ h.0, λ t passes. h.1 t (same t ∙ passes))

or_false : (a b : Bool) → a ≡ false → b ≡ false → a || b ≡ false
or_false a b e f = rw (e, f) refl

or_left : (a b : Bool) → a ≡ true → a || b ≡ true
or_left a b e = rw e refl

or_none : (a : Bool) → a ≡ a || false
or_none true = refl
or_none false = refl

or_or : (a b c : Bool) → (a || b) || c ≡ a || (b || c)
or_or true b c = refl
or_or false b c = refl

-- one of the two passes
pub either : {X : Type 0} (a b : Bool) → a || b ≡ true → (a ≡ true → X) → (b ≡ true → X) → X
either true b e left right = left refl
either false b e left right = right e

earlier-first : (P Q : ℤ → Bool) (a b : Option ℤ) → IsFirstTime P a → IsFirstTime Q b → IsFirstTime (λ t. P t || Q t) (earlier a b)
earlier-first P Q None None p q = λ t. or_false (P t) (Q t) (p t) (q t)
earlier-first P Q None (Some b) p q =
    (or_right (P b) (Q b) q.0, λ t h. either (P t) (Q t) h (λ e. absurd (cc (p t))) (q.1 t))
earlier-first P Q (Some a) None p q =
    (or_left (P a) (Q a) p.0, λ t h. either (P t) (Q t) h (p.1 t) (λ e. absurd (cc (q t))))
earlier-first P Q (Some a) (Some b) p q =
    by_lt_z b a
    (λ lt. let least : int_min a b ≡ b = grind (arith, ints) in
    rw least (or_right (P b) (Q b) q.0, λ t h. either (P t) (Q t) h (λ e. let later = p.1 t e in omega (arith, ints)) (q.1 t)))
    (λ le. let least : int_min a b ≡ a = grind (arith, ints) in
    rw least (or_left (P a) (Q a) p.0, λ t h. either (P t) (Q t) h (p.1 t) (λ e. let later = q.1 t e in omega (arith, ints))))

-- of each interval, f gives the first time that passes its test
earliest-first : (test : Interval → ℤ → Bool) (f : Interval → Option ℤ) → ((i : Interval) → IsFirstTime (test i) (f i)) → (P : ℤ → Bool) (o : Option ℤ) → IsFirstTime P o → (is : List Interval) → IsFirstTime (λ t. P t || list_any (λ i. test i t) is) (fold earlier o (map f is))
earliest-first test f each P o p [] = IsFirstTime-same P _ o (λ t. or_none (P t)) p
earliest-first test f each P o p (i ∷ is) =
    IsFirstTime-same (λ t. (P t || test i t) || list_any (λ j. test j t) is) _ _ (λ t. or_or (P t) (test i t) _)
    (earliest-first test f each (λ t. P t || test i t) (earlier o (f i)) (earlier-first P (test i) o (f i) p (each i)) is)

within-start : (s e : ℤ) → s <ℤ e → int_le s s && int_lt s e ≡ true
within-start s e lt = grind (arith, ints)

within-low : (s e t : ℤ) → int_le s t && int_lt t e ≡ true → s ≤ℤ t
within-low s e t h = grind (arith, ints)

within-none : (s e t : ℤ) → e ≤ℤ s → int_le s t && int_lt t e ≡ false
within-none s e t le = grind (arith, ints)

from-start : (from s e : ℤ) → int_max from s <ℤ e → int_le from (int_max from s) && (int_le s (int_max from s) && int_lt (int_max from s) e) ≡ true
from-start from s e lt = grind (arith, ints)

from-low : (from s e t : ℤ) → int_le from t && (int_le s t && int_lt t e) ≡ true → int_max from s ≤ℤ t
from-low from s e t h = grind (arith, ints)

from-none : (from s e t : ℤ) → e ≤ℤ int_max from s → int_le from t && (int_le s t && int_lt t e) ≡ false
from-none from s e t le = grind (arith, ints)

first_time-first : (i : Interval) → IsFirstTime (holds_time i) (first_time i)
first_time-first i =
    by_lt_z i.start i.end
    (λ lt. let some : first_time i ≡ Some i.start = grind (arith, ints) in
    rw some (within-start i.start i.end lt, λ t h. within-low i.start i.end t h))
    (λ le. let none : first_time i ≡ None = grind (arith, ints) in rw none (λ t. within-none i.start i.end t le))

pub union_start-first : (is : List Interval) → IsFirstTime (union_holds is) (union_start is)
union_start-first is = earliest-first holds_time first_time first_time-first (λ t. false) None (λ t. refl) is

first_time_from-first : (from : ℤ) (i : Interval) → IsFirstTime (λ t. int_le from t && holds_time i t) (first_time_from from i)
first_time_from-first from i =
    by_lt_z (int_max from i.start) i.end
    (λ lt. let some : first_time_from from i ≡ Some (int_max from i.start) = grind (arith, ints) in
    rw some (from-start from i.start i.end lt, λ t h. from-low from i.start i.end t h))
    (λ le. let none : first_time_from from i ≡ None = grind (arith, ints) in rw none (λ t. from-none from i.start i.end t le))

and_any : (c : Bool) (test : Interval → Bool) (is : List Interval) → list_any (λ i. c && test i) is ≡ c && list_any test is
and_any true test is = refl
and_any false test [] = refl
and_any false test (i ∷ is) = and_any false test is

pub union_first_from-first : (from : ℤ) (is : List Interval) → IsFirstTime (λ t. int_le from t && union_holds is t) (union_first_from from is)
union_first_from-first from is =
    IsFirstTime-same (λ t. list_any (λ i. int_le from t && holds_time i t) is) _ _ (λ t. and_any (int_le from t) (λ i. holds_time i t) is)
    (earliest-first (λ i t. int_le from t && holds_time i t) (first_time_from from) (first_time_from-first from) (λ t. false) None (λ t. refl) is)
