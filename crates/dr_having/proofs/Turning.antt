-- Sets of numbers by their steps: the opposite of one, what two share, and the search for a number.
use Rattle.std.proofs.Common.{◌≡◌, ◌∙◌, sym, refl, ap, subst, Bool, true, false, not, ◌&&◌, ◌⊎◌, inl, inr, ℕ, zero, suc, ◌+◌, ◌<◌, ◌≤◌, ◌%◌, List, [], ◌∷◌, ◌++◌, length, get_or, take, drop, ℤ, ◌≤ℤ◌, int_le, if◌then◌else◌, nat_eq, arith}
use Rattle.std.specs.Bool.{beq}
use Rattle.std.specs.List.{AllByRecursion, AllWithin}
use Rattle.std.specs.List.Sorted.{IsPartitionedBy}
use Rattle.std.proofs.lemmas.Int.{ints}
use Rattle.std.proofs.lemmas.List.{drop_more, drop_all, append_assoc, append-nil}
use Rattle.dr_base.proofs.Truths.{and_regroups}
use Rattle.dr_having.specs.JoinedSteps.{are_among, where_wanted}
use Rattle.dr_having.specs.Steps.{Steps, is_among, turned_by, Rise}

-- ---- truth values

-- a truth value turned round, where one asks for it
abbrev turned : Bool → Bool → Bool
turned true a = not a
turned false a = a

-- ---- the numbers that are in a set

turn_of-not : (b within : Bool) → (if b then not (not within) else not within) ≡ not (if b then not within else within)
turn_of-not b within = grind (arith)

pub others-turned : (within : Bool) (cs : List ℤ) (v : ℤ) → turned_by (not within) cs v ≡ not (turned_by within cs v)
others-turned within [] v = refl
others-turned within (c ∷ cs) v = ap (λ b. turned_by b cs v) (turn_of-not (int_le c v) within) ∙ others-turned (if int_le c v then not within else within) cs v

turned-from : (within : Bool) (cs : List ℤ) (v : ℤ) → turned_by within cs v ≡ turned within (turned_by false cs v)
turned-from true cs v = others-turned false cs v
turned-from false cs v = refl

turned-append : (within : Bool) (cs ds : List ℤ) (v : ℤ) → turned_by within (cs ++ ds) v ≡ turned_by (turned_by within cs v) ds v
turned-append within [] ds v = refl
turned-append within (c ∷ cs) ds v = turned-append (if int_le c v then not within else within) cs ds v

above : (c d v : ℤ) → c ≤ℤ d → int_le c v ≡ false → int_le d v ≡ false
above c d v le h = grind (arith, ints)

-- nothing is turned round before the first step
pub before : (c v : ℤ) → int_le c v ≡ false → (within : Bool) (cs : List ℤ) → AllByRecursion (λ d. c ≤ℤ d) cs → turned_by within cs v ≡ within
before c v h within [] all = refl
before c v h within (d ∷ cs) all = ap (λ b. turned_by (if b then not within else within) cs v) (above c d v all.0 h) ∙ before c v h within cs all.1

-- ---- rising steps

rise_without : (out cs : List ℤ) (c : ℤ) → Rise (out ++ c ∷ cs) → Rise (out ++ cs)
rise_without [] cs c rise = rise.1
rise_without (o ∷ out) cs c rise = (all_without out rise.0, rise_without out cs c rise.1)
  where
    all_without : (out : List ℤ) → AllByRecursion (λ d. o ≤ℤ d) (out ++ c ∷ cs) → AllByRecursion (λ d. o ≤ℤ d) (out ++ cs)
    all_without [] all = all.1
    all_without (x ∷ out) all = (all.0, all_without out all.1)

-- a step more before some that aren't below it
rise_before : (out cs ds : List ℤ) (c : ℤ) → Rise (out ++ c ∷ cs) → Rise (out ++ ds) → AllByRecursion (λ d. c ≤ℤ d) ds → Rise (out ++ c ∷ ds)
rise_before [] cs ds c some others all = (all, others)
rise_before (o ∷ out) cs ds c some others all = (all_with out some.0 others.0, rise_before out cs ds c some.1 others.1 all)
  where
    all_with : (out : List ℤ) → AllByRecursion (λ d. o ≤ℤ d) (out ++ c ∷ cs) → AllByRecursion (λ d. o ≤ℤ d) (out ++ ds) → AllByRecursion (λ d. o ≤ℤ d) (out ++ c ∷ ds)
    all_with [] some others = (some.0, others)
    all_with (x ∷ out) some others = (some.0, all_with out some.1 others.1)

-- the last of the steps, and those behind it
rise_behind : (out : List ℤ) (cs : List ℤ) → Rise (out ++ cs) → Rise cs
rise_behind [] cs rise = rise
rise_behind (o ∷ out) cs rise = rise_behind out cs rise.1

all_above : (c d : ℤ) → c ≤ℤ d → (cs : List ℤ) → AllByRecursion (λ e. d ≤ℤ e) cs → AllByRecursion (λ e. c ≤ℤ e) cs
all_above c d le [] all = tt
all_above c d le (e ∷ cs) all = (let next = all.0 in omega (arith, ints), all_above c d le cs all.1)

-- ---- what two sets share

-- what was put out of the steps of some and others, whose least numbers are in them or not, and what is left of both, tell what both tell
abbrev pub Shares : (some_within others_within : Bool) (some others : List ℤ) → (out : List ℤ) (in_some in_others : Bool) (rest more : List ℤ) → Type 0
Shares some_within others_within some others out in_some in_others rest more =
    Rise (out ++ rest) × Rise (out ++ more)
    × ((v : ℤ) → turned (in_some && in_others) (turned (turned_by in_some rest v && turned_by in_others more v) (turned_by (some_within && others_within) out v)) ≡ (turned_by some_within some v && turned_by others_within others v))

and_comm : (a b : Bool) → (a && b) ≡ (b && a)
and_comm a b = grind (arith)

-- behind the step, where it turns round whether the number is in the first set
after_turn : (q r e o : Bool) → turned (not q && r) (turned e (turned r o)) ≡ turned (q && r) (turned e o)
after_turn q r e o = grind (arith)

-- before the step nothing changes
before_turn : (q r o : Bool) → turned (not q && r) (turned (not q && r) o) ≡ turned (q && r) (turned (q && r) o)
before_turn q r o = grind (arith)

-- the step that is put out
put_out : (w : Bool) (out : List ℤ) (c v : ℤ) (r : Bool) → turned_by w (out ++ where_wanted r (c ∷ [])) v ≡ turned (int_le c v && r) (turned_by w out v)
put_out w out c v r = turned-append w out (where_wanted r (c ∷ [])) v ∙ at r (int_le c v) refl
  where
    at : (r b : Bool) → int_le c v ≡ b → turned_by (turned_by w out v) (where_wanted r (c ∷ [])) v ≡ turned (b && r) (turned_by w out v)
    at true true is = ap (λ e. if e then not (turned_by w out v) else turned_by w out v) is
    at true false is = ap (λ e. if e then not (turned_by w out v) else turned_by w out v) is
    at false true is = refl
    at false false is = refl

module _ (some_within others_within : Bool) (some others out : List ℤ) (q r : Bool) where
  shares-swap : (rest more : List ℤ) → Shares some_within others_within some others out q r rest more → Shares others_within some_within others some out r q more rest
  shares-swap rest more (rise_rest, rise_more, tells) = (
    rise_more,
    rise_rest,
    λ v. (λ k. turned (and_comm r q k) (turned (and_comm (turned_by r more v) (turned_by q rest v) k) (turned_by (and_comm others_within some_within k) out v)))
        ∙ tells v ∙ and_comm (turned_by some_within some v) (turned_by others_within others v),
  )

  module _ (c : ℤ) (rest more : List ℤ) where
    turns-told : AllByRecursion (λ d. c ≤ℤ d) rest → AllByRecursion (λ d. c ≤ℤ d) more → (v : ℤ) (w o : Bool) (b : Bool) → int_le c v ≡ b
        → turned (q && r) (turned (turned_by (if b then not q else q) rest v && turned_by r more v) o) ≡ w
        → turned (not q && r) (turned (turned_by (not q) rest v && turned_by r more v) (turned (b && r) o)) ≡ w
    turns-told above_rest above_more v w o true is tells = after_turn q r (turned_by (not q) rest v && turned_by r more v) o ∙ tells
    turns-told above_rest above_more v w o false is tells =
        (λ k. turned (not q && r) (turned (before c v is (not q) rest above_rest k && before c v is r more above_more k) o))
        ∙ before_turn q r o
        ∙ sym (λ k. turned (q && r) (turned (before c v is q rest above_rest k && before c v is r more above_more k) o))
        ∙ tells

    rise-put : (wanted : Bool) (ds : List ℤ) → Rise (out ++ c ∷ ds) → Rise (out ++ where_wanted wanted (c ∷ []) ++ ds)
    rise-put true ds rise = subst Rise (sym (append_assoc out (c ∷ []) ds)) rise
    rise-put false ds rise = subst Rise (sym (append_assoc out [] ds)) (rise_without out ds c rise)

    -- a step of the first set, which is above none of what is left
    first-turns : AllByRecursion (λ d. c ≤ℤ d) more → Shares some_within others_within some others out q r (c ∷ rest) more
        → Shares some_within others_within some others (out ++ where_wanted r (c ∷ [])) (not q) r rest more
    first-turns above_more (rise_rest, rise_more, tells) = (
      rise-put r rest rise_rest,
      rise-put r more (rise_before out rest more c rise_rest rise_more above_more),
      λ v.
          (λ k. turned (not q && r) (turned (turned_by (not q) rest v && turned_by r more v) (put_out (some_within && others_within) out c v r k)))
          ∙ turns-told (rise_behind out (c ∷ rest) rise_rest).0 above_more v _ (turned_by (some_within && others_within) out v) (int_le c v) refl (tells v),
    )

-- none of what is left of the other set is below the step
above_rest : (out more : List ℤ) (c d : ℤ) → c ≤ℤ d → Rise (out ++ d ∷ more) → AllByRecursion (λ e. c ≤ℤ e) (d ∷ more)
above_rest out more c d le rise = (le, all_above c d le more (rise_behind out (d ∷ more) rise).0)

module _ (some_within others_within : Bool) (some others out new : List ℤ) (q r : Bool) (i j : ℕ) (d : ℤ) (lt : i < length some) (lt_others : j < length others) where
  pub first-done : get_or some i d ≤ℤ get_or others j d → new ≡ out ++ where_wanted r (get_or some i d ∷ []) → Shares some_within others_within some others out q r (drop i some) (drop j others)
      → Shares some_within others_within some others new (not q) r (drop (i + 1) some) (drop j others)
  first-done le is shares =
      let c = get_or some i d in
      let at = subst (λ l. Shares some_within others_within some others out q r l (drop j others)) (drop_more some i d lt) shares in
      let above = above_rest out (drop (j + 1) others) c (get_or others j d) le (subst (λ l. Rise (out ++ l)) (drop_more others j d lt_others) shares.1) in
      subst (λ l. Shares some_within others_within some others l (not q) r (drop (i + 1) some) (drop j others)) (sym is)
      (first-turns some_within others_within some others out q r c (drop (i + 1) some) (drop j others) (subst (λ l. AllByRecursion (λ e. c ≤ℤ e) l) (sym (drop_more others j d lt_others)) above) at)

pub second-done : (some_within others_within : Bool) (some others out new : List ℤ) (q r : Bool) (i j : ℕ) (d : ℤ) → i < length some → j < length others
    → get_or others j d ≤ℤ get_or some i d → new ≡ out ++ where_wanted q (get_or others j d ∷ []) → Shares some_within others_within some others out q r (drop i some) (drop j others)
    → Shares some_within others_within some others new q (not r) (drop i some) (drop (j + 1) others)
second-done some_within others_within some others out new q r i j d lt lt_others le is shares =
    shares-swap others_within some_within others some new (not r) q (drop (j + 1) others) (drop i some)
    (first-done others_within some_within others some out new r q j i d lt_others lt le is (shares-swap some_within others_within some others out q r (drop i some) (drop j others) shares))

-- ---- the end of the loop

end_turn : (q r t o : Bool) → turned (q && r) (turned (turned q t && r) o) ≡ turned o (r && t)
end_turn q r t o = grind (arith)

wanted-turns : (r o : Bool) (cs : List ℤ) (v : ℤ) → turned_by o (where_wanted r cs) v ≡ turned o (r && turned_by false cs v)
wanted-turns true o cs v = turned-from o cs v
wanted-turns false true cs v = refl
wanted-turns false false cs v = refl

module _ (some_within others_within : Bool) (some others out new : List ℤ) (q r : Bool) where
  rise-wanted : (rest : List ℤ) → Rise (out ++ rest) → Rise (out ++ []) → (b : Bool) → Rise (out ++ where_wanted b rest)
  rise-wanted rest with_rest alone true = with_rest
  rise-wanted rest with_rest alone false = alone

  -- nothing is left of the other set
  all-first : (rest : List ℤ) → new ≡ out ++ where_wanted r rest → Shares some_within others_within some others out q r rest []
      → Rise new × ((v : ℤ) → turned_by (some_within && others_within) new v ≡ (turned_by some_within some v && turned_by others_within others v))
  all-first rest is (rise_rest, rise_more, tells) = (
    subst Rise (sym is) (rise-wanted rest rise_rest rise_more r),
    λ v.
        let o = turned_by (some_within && others_within) out v in
        ap (λ l. turned_by (some_within && others_within) l v) is ∙ turned-append (some_within && others_within) out (where_wanted r rest) v ∙ wanted-turns r o rest v
        ∙ sym (end_turn q r (turned_by false rest v) o)
        ∙ sym (λ k. turned (q && r) (turned (turned-from q rest v k && r) o))
        ∙ tells v,
  )

module _ (some_within others_within : Bool) (some others out mid new : List ℤ) (q r : Bool) (i j : ℕ) where
  nothing : (wanted : Bool) → where_wanted wanted [] ≡ []
  nothing true = refl
  nothing false = refl

  pub all-shared : (length some ≤ i) ⊎ (length others ≤ j) → mid ≡ out ++ where_wanted r (drop i some) → new ≡ mid ++ where_wanted q (drop j others)
      → Shares some_within others_within some others out q r (drop i some) (drop j others)
      → Rise new × ((v : ℤ) → turned_by (some_within && others_within) new v ≡ (turned_by some_within some v && turned_by others_within others v))
  all-shared (inr done) is_mid is_new shares =
      let none = drop_all j others done in
      all-first some_within others_within some others out new q r (drop i some)
      (is_new ∙ (λ k. is_mid k ++ where_wanted q (none k)) ∙ ap (λ l. out ++ where_wanted r (drop i some) ++ l) (nothing q) ∙ append-nil (out ++ where_wanted r (drop i some)))
      (subst (λ l. Shares some_within others_within some others out q r (drop i some) l) none shares)
  all-shared (inl done) is_mid is_new shares =
      let none = drop_all i some done in
      let (rise, tells) = all-first others_within some_within others some out new r q (drop j others)
      (is_new ∙ ap (λ l. l ++ where_wanted q (drop j others)) (is_mid ∙ ap (λ l. out ++ where_wanted r l) none ∙ ap (λ l. out ++ l) (nothing r) ∙ append-nil out))
      (subst (λ l. Shares others_within some_within others some out r q (drop j others) l) none (shares-swap some_within others_within some others out q r (drop i some) (drop j others) shares)) in
      (rise, λ v. (λ k. turned_by (and_comm some_within others_within k) new v) ∙ tells v ∙ and_comm (turned_by others_within others v) (turned_by some_within some v))

-- ---- the search

at_place : (P : ℤ → Type 0) (cs : List ℤ) (k : ℕ) (d : ℤ) → AllByRecursion P cs → k < length cs → P (get_or cs k d)
at_place P [] k d all lt = absurd (omega (arith, lt))
at_place P (c ∷ cs) zero d all lt = all.0
at_place P (c ∷ cs) (suc k) d all lt = at_place P cs k d all.1 (omega (arith, lt))

rises : (cs : List ℤ) (i j : ℕ) (d : ℤ) → Rise cs → i ≤ j → j < length cs → get_or cs i d ≤ℤ get_or cs j d
rises [] i j d rise le lt = absurd (omega (arith, lt))
rises (c ∷ cs) zero zero d rise le lt = omega (arith, ints)
rises (c ∷ cs) zero (suc j) d rise le lt = at_place (λ e. c ≤ℤ e) cs j d rise.0 (omega (arith, lt))
rises (c ∷ cs) (suc i) zero d rise le lt = absurd (omega (arith, le))
rises (c ∷ cs) (suc i) (suc j) d rise le lt = rises cs i j d rise.1 (omega (arith, le)) (omega (arith, lt))

below : (c d v : ℤ) → c ≤ℤ d → int_le d v ≡ true → int_le c v ≡ true
below c d v le h = grind (arith, ints)

pub steps-part : (cs : List ℤ) (v : ℤ) → Rise cs → IsPartitionedBy (λ c. int_le c v) cs
steps-part cs v rise i j d le lt h = below (get_or cs i d) (get_or cs j d) v (rises cs i j d rise le lt) h

even-next : (n : ℕ) → nat_eq ((suc n) % 2) 0 ≡ not (nat_eq (n % 2) 0)
even-next n = grind (arith)

same-turned : (a b : Bool) → beq (not a) b ≡ beq a (not b)
same-turned a b = grind (arith)

same-true : (a : Bool) → a ≡ beq a true
same-true a = grind (arith)

pub turned-at : (within : Bool) (cs : List ℤ) (v : ℤ) (k : ℕ) → k ≤ length cs → AllWithin (λ c. int_le c v ≡ true) cs 0 k → AllWithin (λ c. int_le c v ≡ false) cs k (length cs)
    → beq within (nat_eq (k % 2) 0) ≡ turned_by within cs v
turned-at within [] v zero le low high = sym (same-true within)
turned-at within [] v (suc k) le low high = absurd (omega (arith, le))
turned-at within (c ∷ cs) v zero le low high =
    turned-at within cs v zero (omega arith) (λ m d ge lt. absurd (omega (arith, ge, lt))) (λ m d ge lt. high (suc m) d (omega (arith, ge)) (omega (arith, lt)))
    ∙ sym (ap (λ b. turned_by (if b then not within else within) cs v) (high 0 c (omega arith) (omega arith)))
turned-at within (c ∷ cs) v (suc k) le low high =
    ap (beq within) (even-next k) ∙ sym (same-turned within (nat_eq (k % 2) 0))
    ∙ turned-at (not within) cs v k (omega (arith, le)) (λ m d ge lt. low (suc m) d (omega (arith, ge)) (omega (arith, lt))) (λ m d ge lt. high (suc m) d (omega (arith, ge)) (omega (arith, lt)))
    ∙ sym (ap (λ b. turned_by (if b then not within else within) cs v) (low 0 c (omega arith) (omega arith)))

-- ---- many sets

-- all of both halves have a number where all have it
pub halves-among : (v : ℤ) (n : ℕ) (sets : List Steps) → (are_among (take n sets) v && are_among (drop n sets) v) ≡ are_among sets v
halves-among v zero sets = refl
halves-among v (suc n) [] = refl
halves-among v (suc n) (s ∷ sets) = sym (and_regroups (is_among s v) (are_among (take n sets) v) (are_among (drop n sets) v)) ∙ (λ k. is_among s v && halves-among v n sets k)
