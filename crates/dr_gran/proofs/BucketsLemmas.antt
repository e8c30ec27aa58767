-- How the list of buckets goes on, and that they are the first filled ones.
use Rattle.std.proofs.Common.{◌≡◌, ℕ, zero, suc, ◌-◌, ◌<◌, ◌⊎◌, inl, inr, Bool, true, false, ◌&&◌, List, [], ◌∷◌, take, length, Option, Some, None, IfSome, refl, sym, ap, ◌∙◌, arith, ℤ, ◌≤ℤ◌, ◌<ℤ◌, int_le}
use Rattle.std.specs.Bool.{if◌then◌else◌, ⊤}
use Rattle.std.specs.Option.{option_to_list}
use Rattle.std.specs.List.{AllByRecursion}
use Rattle.std.specs.Iterator.{MakesProgress, item_count}
use Rattle.std.proofs.lemmas.Int.{ints, by_lt_z}
use Rattle.jiff_core.proofs.SignedLemmas.{signed_arith}
use Rattle.dr_time.specs.declared.interval.Interval.{Interval}
use Rattle.dr_time.specs.Instant.{first_instant}
use Rattle.dr_time.specs.Union.{union_holds, union_start, union_first_from}
use Rattle.dr_time.specs.Laws.{IsFirstTime}
use Rattle.dr_time.proofs.UnionLemmas.{union_first_from-first, union_start-first}
use Rattle.dr_gran.specs.declared.gran.Gran.{Gran}
use Rattle.dr_gran.specs.Step.{is_all, IsStart}
use Rattle.dr_gran.specs.Truncation.{truncation, next}
use Rattle.dr_gran.specs.Buckets.{up_to, first_common, first_buckets, all_bucket, buckets_of, bucket, IsFilled, IsAmong, AreFirst}
use Rattle.dr_gran.proofs.TruncationLemmas.{IsTruncation-truncation, IsNext-next}

-- ---- the first time of both

-- what the first time of the union and the span is
abbrev pub IsCommon : List Interval → ℤ → ℤ → Option ℤ → Type 0
IsCommon us from to None = (t : ℤ) → union_holds us t ≡ true → from ≤ℤ t → t ≤ℤ to → ⊥
IsCommon us from to (Some t) =
    (union_holds us t ≡ true) × (from ≤ℤ t) × (t ≤ℤ to) × ((u : ℤ) → union_holds us u ≡ true → from ≤ℤ u → t ≤ℤ u)

from_and_held : (from t : ℤ) (held : Bool) → from ≤ℤ t → held ≡ true → int_le from t && held ≡ true
from_and_held from t held le h = grind (arith, ints)

from_part : (from t : ℤ) (held : Bool) → int_le from t && held ≡ true → from ≤ℤ t
from_part from t held h = grind (arith, ints)

held_part : (a held : Bool) → a && held ≡ true → held ≡ true
held_part true held h = h
held_part false held h = absurd (cc h)

true_not_false : (b : Bool) → b ≡ true → b ≡ false → ⊥
true_not_false b e f = cc (e, f)

up_to-common : (us : List Interval) (from to : ℤ) (o : Option ℤ) → IsFirstTime (λ t. int_le from t && union_holds us t) o → IsCommon us from to (up_to to o)
up_to-common us from to None first = λ t held low high. true_not_false _ (from_and_held from t (union_holds us t) low held) (first t)
up_to-common us from to (Some t) first =
    by_lt_z to t
    (λ lt. let past : up_to to (Some t) ≡ None = grind (arith, ints) in
    rw past (λ u held low high. let later = first.1 u (from_and_held from u (union_holds us u) low held) in absurd (omega (arith, signed_arith))))
    (λ le. let within : up_to to (Some t) ≡ Some t = grind (arith, ints) in
    rw within (held_part (int_le from t) (union_holds us t) first.0, from_part from t (union_holds us t) first.0, le, λ u held low. first.1 u (from_and_held from u (union_holds us u) low held)))

pub first_common-is : (us : List Interval) (from to : ℤ) → IsCommon us from to (first_common us from to)
first_common-is us from to = up_to-common us from to (union_first_from from us) (union_first_from-first from us)

-- the same at a result
pub common_at : (us : List Interval) (from to : ℤ) (o : Option ℤ) → o ≡ first_common us from to → IsCommon us from to o
common_at us from to o e = rw e (first_common-is us from to)

-- ---- one bucket after another

if_true : {X : Type 0} (b : Bool) (x y : X) → b ≡ true → (if b then x else y) ≡ x
if_true b x y e = rw e refl

if_false : {X : Type 0} (b : Bool) (x y : X) → b ≡ false → (if b then x else y) ≡ y
if_false b x y e = rw e refl

if_both : {X : Type 0} (b : Bool) (x y z : X) → x ≡ z → y ≡ z → (if b then x else y) ≡ z
if_both true x y z e f = e
if_both false x y z e f = f

take-nothing : (n : ℕ) → take {A = ℤ} n [] ≡ []
take-nothing zero = refl
take-nothing (suc n) = refl

pub buckets_of-zero : (g : Gran) (us : List Interval) (from to : ℤ) → buckets_of 0 g us from to ≡ []
unfolding first_buckets
buckets_of-zero g us from to = if_both (is_all g) _ _ _ refl refl

first_buckets-none : (n : ℕ) (g : Gran) (us : List Interval) (from to : ℤ) → first_common us from to ≡ None → first_buckets n g us from to ≡ []
unfolding first_buckets
first_buckets-none zero g us from to e = refl
first_buckets-none (suc n) g us from to e = rw e refl

first_buckets-some : (n : ℕ) (g : Gran) (us : List Interval) (from to t : ℤ) → first_common us from to ≡ Some t → first_buckets (suc n) g us from to ≡ truncation g t ∷ first_buckets n g us (next g t) to
unfolding first_buckets
first_buckets-some n g us from to t e = rw e refl

all_bucket-none : (us : List Interval) (from to : ℤ) → first_common us from to ≡ None → all_bucket us from to ≡ []
all_bucket-none us from to e = rw e refl

all_bucket-some : (us : List Interval) (from to t : ℤ) → first_common us from to ≡ Some t → all_bucket us from to ≡ option_to_list (union_start us)
all_bucket-some us from to t e = rw e refl

pub buckets_of-none : (n : ℕ) (g : Gran) (us : List Interval) (from to : ℤ) → first_common us from to ≡ None → buckets_of n g us from to ≡ []
buckets_of-none n g us from to e =
    if_both (is_all g) _ _ _ (ap (take n) (all_bucket-none us from to e) ∙ take-nothing n) (first_buckets-none n g us from to e)

pub buckets_of-some : (n m : ℕ) (g : Gran) (us : List Interval) (from to t : ℤ) → is_all g ≡ false → n ≡ suc m → first_common us from to ≡ Some t → buckets_of n g us from to ≡ truncation g t ∷ buckets_of m g us (next g t) to
buckets_of-some n m g us from to t kind e common =
    if_false (is_all g) _ _ kind ∙ (ap (λ k. first_buckets k g us from to) e ∙ (first_buckets-some m g us from to t common ∙ ap (λ bs. truncation g t ∷ bs) (sym (if_false (is_all g) _ _ kind))))

-- the same in the code's terms
pub buckets_of-given : (n : ℕ) (g : Gran) (us : List Interval) (from to t start end : ℤ) → is_all g ≡ false → 0 < n → first_common us from to ≡ Some t → start ≡ truncation g t → end ≡ next g t → buckets_of n g us from to ≡ start ∷ buckets_of (n - 1) g us end to
buckets_of-given n g us from to t start end kind positive common s e =
    rw (s, e) (buckets_of-some n (n - 1) g us from to t kind (omega arith) common)

-- an item leaves a shorter list
pub progress : (old new : List ℤ) (x : ℤ) → old ≡ x ∷ new → MakesProgress (λ (b : List ℤ). ⊤) (item_count (λ b. b)) old (Some x) new
progress old new x e = record {
  on = λ _. (tt, tt, rw e (omega arith));
  keeps = tt;
  rests = λ _. tt;
}

take-one : (n : ℕ) (o : Option ℤ) → 0 < n → take n (option_to_list o) ≡ option_to_list o
take-one zero o h = absurd (omega arith)
take-one (suc n) None h = refl
take-one (suc zero) (Some b) h = refl
take-one (suc (suc n)) (Some b) h = refl

pub buckets_of-all : (n : ℕ) (g : Gran) (us : List Interval) (from to t : ℤ) → is_all g ≡ true → 0 < n → first_common us from to ≡ Some t → buckets_of n g us from to ≡ option_to_list (union_start us)
buckets_of-all n g us from to t kind h common =
    if_true (is_all g) _ _ kind ∙ (ap (take n) (all_bucket-some us from to t common) ∙ take-one n (union_start us) h)

-- bounds on what was found
pub common_low : (us : List Interval) (from to : ℤ) (o : Option ℤ) → IsCommon us from to o → IfSome o (λ t. from ≤ℤ t)
common_low us from to None h = tt
common_low us from to (Some t) h = h.1

-- ---- they are the first filled ones

-- a bucket that holds a time from the start of another on starts there at the least
truncation-from : (g : Gran) (u s : ℤ) → first_instant ≤ℤ u → IsStart g s → s ≤ℤ u → s ≤ℤ truncation g u
truncation-from g u s from starts le = (IsTruncation-truncation g u (omega (arith, signed_arith))).greatest s starts le

-- times before the end of a time's bucket, and not before the time, lie in the same bucket
same_bucket : (g : Gran) (t u : ℤ) → first_instant ≤ℤ t → t ≤ℤ u → u <ℤ next g t → truncation g u ≡ truncation g t
same_bucket g t u from le lt =
    let at_t = IsTruncation-truncation g t (omega (arith, signed_arith)) in
    let at_u = IsTruncation-truncation g u (omega (arith, signed_arith)) in
    let end = IsNext-next g t (omega (arith, signed_arith)) in
    let held = at_t.not_after in
    let below = at_u.greatest (truncation g t) at_t.starts (omega (arith, signed_arith)) in
    by_lt_z t (truncation g u)
    (λ after. let past = end.least (truncation g u) at_u.starts after in let within = at_u.not_after in absurd (omega (arith, signed_arith)))
    (λ before. let back = at_t.greatest (truncation g u) at_u.starts before in omega (arith, signed_arith))

each_weaker : (P Q : ℤ → Type 0) (bs : List ℤ) → ((b : ℤ) → P b → Q b) → AllByRecursion P bs → AllByRecursion Q bs
each_weaker P Q [] f h = tt
each_weaker P Q (b ∷ bs) f h = (f b h.0, each_weaker P Q bs f h.1)

bucket-kind : (g : Gran) (us : List Interval) (t b : ℤ) → is_all g ≡ false → bucket g us t ≡ Some b → truncation g t ≡ b
bucket-kind g us t b kind e = let some = sym (if_false (is_all g) (union_start us) (Some (truncation g t)) kind) ∙ e in cc some

bucket-start : (g : Gran) (us : List Interval) (t : ℤ) → is_all g ≡ false → bucket g us t ≡ Some (truncation g t)
bucket-start g us t kind = if_false (is_all g) _ _ kind

-- what is filled from the end of a bucket on
filled_later : (g : Gran) (us : List Interval) (from to t b : ℤ) → is_all g ≡ false → first_instant ≤ℤ from → from ≤ℤ t → IsFilled g us (next g t) to b → IsFilled g us from to b × (truncation g t <ℤ b)
filled_later g us from to t b kind first le f =
    let end = IsNext-next g t (omega (arith, signed_arith)) in
    let after = end.after in
    let held = (IsTruncation-truncation g t (omega (arith, signed_arith))).not_after in
    let later = f.not_before in
    let start = truncation-from g f.time (next g t) (omega (arith, signed_arith)) end.starts f.not_before in
    let is = bucket-kind g us f.time b kind f.bucket_is in
    (record { time = f.time; held = f.held; not_before = omega (arith, signed_arith); not_after = f.not_after; bucket_is = f.bucket_is }, omega (arith, signed_arith, is))

first_buckets-zero : (g : Gran) (us : List Interval) (from to : ℤ) → first_buckets 0 g us from to ≡ []
unfolding first_buckets
first_buckets-zero g us from to = refl

-- a filled bucket is that of the first time, or one of those from its end on
no_other_more : (n : ℕ) (g : Gran) (us : List Interval) (from to t : ℤ) (rest : List ℤ) → is_all g ≡ false → first_instant ≤ℤ from → IsCommon us from to (Some t) → AreFirst n (IsFilled g us (next g t) to) rest → (b : ℤ) → IsFilled g us from to b → IsAmong b (truncation g t ∷ rest) ⊎ ((length (truncation g t ∷ rest) ≡ suc n) × AllByRecursion (λ c. c <ℤ b) (truncation g t ∷ rest))
no_other_more n g us from to t rest kind low common ih b f =
    let is = bucket-kind g us f.time b kind f.bucket_is in
    let order = common.3 f.time f.held f.not_before in
    by_lt_z f.time (next g t)
    (λ lt. inl (inl (sym is ∙ same_bucket g t f.time (omega (arith, signed_arith, common.1)) order lt)))
    (λ le.
    let later : IsFilled g us (next g t) to b = record { time = f.time; held = f.held; not_before = le; not_after = f.not_after; bucket_is = f.bucket_is } in
    elim (ih.no_other b later) [
      | inl among ↦ inl (inr among)
      | inr full ↦ inr (omega (arith, full.0), ((filled_later g us from to t b kind low common.1 later).1, full.1))
    ])

one_more : (n : ℕ) (g : Gran) (us : List Interval) (from to t : ℤ) (rest : List ℤ) → is_all g ≡ false → first_instant ≤ℤ from → IsCommon us from to (Some t) → AreFirst n (IsFilled g us (next g t) to) rest → AreFirst (suc n) (IsFilled g us from to) (truncation g t ∷ rest)
one_more n g us from to t rest kind low common ih = record {
  rising = (each_weaker _ (λ c. truncation g t <ℤ c) rest (λ c f. (filled_later g us from to t c kind low common.1 f).1) ih.each, ih.rising);
  each = (record { time = t; held = common.0; not_before = common.1; not_after = common.2; bucket_is = bucket-start g us t kind }, each_weaker _ _ rest (λ c f. (filled_later g us from to t c kind low common.1 f).0) ih.each);
  most = omega (arith, ih.most);
  no_other = no_other_more n g us from to t rest kind low common ih;
}

next_buckets : (n : ℕ) (g : Gran) (us : List Interval) (from to : ℤ) (o : Option ℤ) → is_all g ≡ false → first_instant ≤ℤ from → ((from' : ℤ) → first_instant ≤ℤ from' → AreFirst n (IsFilled g us from' to) (first_buckets n g us from' to)) → first_common us from to ≡ o → IsCommon us from to o → AreFirst (suc n) (IsFilled g us from to) (first_buckets (suc n) g us from to)
next_buckets n g us from to None kind low ih e common =
    rw (first_buckets-none (suc n) g us from to e)
    (record { rising = tt; each = tt; most = omega arith; no_other = λ b f. absurd (common f.time f.held f.not_before f.not_after) })
next_buckets n g us from to (Some t) kind low ih e common =
    let after = (IsNext-next g t (omega (arith, signed_arith, common.1))).after in
    rw (first_buckets-some n g us from to t e)
    (one_more n g us from to t (first_buckets n g us (next g t) to) kind low common (ih (next g t) (omega (arith, signed_arith, common.1))))

first_buckets-first : (n : ℕ) (g : Gran) (us : List Interval) (from to : ℤ) → is_all g ≡ false → first_instant ≤ℤ from → AreFirst n (IsFilled g us from to) (first_buckets n g us from to)
first_buckets-first zero g us from to kind low =
    rw (first_buckets-zero g us from to) (record { rising = tt; each = tt; most = omega arith; no_other = λ b f. inr (refl, tt) })
first_buckets-first (suc n) g us from to kind low =
    next_buckets n g us from to (first_common us from to) kind low (λ later high. first_buckets-first n g us later to kind high) refl (first_common-is us from to)

-- ---- the bucket of all times

all_starts : (g : Gran) (us : List Interval) (t b s : ℤ) → is_all g ≡ true → union_start us ≡ Some s → bucket g us t ≡ Some b → b ≡ s
all_starts g us t b s kind start e = let some = sym (if_true (is_all g) (union_start us) (Some (truncation g t)) kind) ∙ e in cc (some, start)

all_first : (n : ℕ) (g : Gran) (us : List Interval) (from to t : ℤ) (o : Option ℤ) → is_all g ≡ true → IsCommon us from to (Some t) → o ≡ union_start us → IsFirstTime (union_holds us) o → AreFirst n (IsFilled g us from to) (take n (option_to_list o))
all_first n g us from to t None kind common e first = absurd (true_not_false (union_holds us t) common.0 (first t))
all_first zero g us from to t (Some s) kind common e first =
    record { rising = tt; each = tt; most = omega arith; no_other = λ b f. inr (refl, tt) }
all_first (suc n) g us from to t (Some s) kind common e first =
    let start : bucket g us t ≡ Some s = if_true (is_all g) (union_start us) (Some (truncation g t)) kind ∙ sym e in
    rw (take-one (suc n) (Some s) (omega arith))
    (record {
      rising = (tt, tt);
      each = (record { time = t; held = common.0; not_before = common.1; not_after = common.2; bucket_is = start }, tt);
      most = omega arith;
      no_other = λ b f. inl (inl (all_starts g us f.time b s kind (sym e) f.bucket_is));
    })

all_buckets : (n : ℕ) (g : Gran) (us : List Interval) (from to : ℤ) (o : Option ℤ) → is_all g ≡ true → first_common us from to ≡ o → IsCommon us from to o → AreFirst n (IsFilled g us from to) (take n (all_bucket us from to))
all_buckets n g us from to None kind e common =
    rw (all_bucket-none us from to e, take-nothing n)
    (record { rising = tt; each = tt; most = omega arith; no_other = λ b f. absurd (common f.time f.held f.not_before f.not_after) })
all_buckets n g us from to (Some t) kind e common =
    rw (all_bucket-some us from to t e)
    (all_first n g us from to t (union_start us) kind common refl (union_start-first us))

by_kind : (b : Bool) {X : Type 0} → (b ≡ true → X) → (b ≡ false → X) → X
by_kind true f g = f refl
by_kind false f g = g refl

pub buckets_of-first : (n : ℕ) (g : Gran) (us : List Interval) (from to : ℤ) → first_instant ≤ℤ from → AreFirst n (IsFilled g us from to) (buckets_of n g us from to)
buckets_of-first n g us from to low =
    by_kind (is_all g)
    (λ kind. rw (if_true (is_all g) (take n (all_bucket us from to)) (first_buckets n g us from to) kind)
    (all_buckets n g us from to (first_common us from to) kind refl (first_common-is us from to)))
    (λ kind. rw (if_false (is_all g) (take n (all_bucket us from to)) (first_buckets n g us from to) kind)
    (first_buckets-first n g us from to kind low))
