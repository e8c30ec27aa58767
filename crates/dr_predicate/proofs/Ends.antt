-- Of two ends of ranges the one that asks more does for both.
use Rattle.std.proofs.Common.{◌≡◌, ◌∙◌, sym, refl, ap, Bool, true, false, not, ◌&&◌, ℕ, List, Option, Some, None}
use Rattle.std.specs.Cmp.{IsTotalOrder}
use Rattle.std.specs.Ordering.{nat_cmp, ordering_reverse}
use Rattle.std.specs.Cmp.Lexicographic.{slice_cmp, nat_list_cmp_total}
use Rattle.std.specs.declared.cmp.Ordering.{Ordering}
use Rattle.std.specs.declared.cmp.Ordering.TheVariants.{Less, Equal, Greater}
use Rattle.dr_predicate.specs.Match.{comes_after, not_before, not_after}
use Rattle.dr_predicate.specs.Ends.{starts_behind, ends_before}

module _ {K : Type 0} (R : K → K → Ordering) (o : IsTotalOrder R) where
  pub turned_round : (x y : K) (r : Ordering) → R x y ≡ r → R y x ≡ ordering_reverse r
  turned_round x y r h = o.antisymm y x ∙ ap ordering_reverse h

  greater_chain : (x y z : K) → R x y ≡ Greater → R y z ≡ Greater → R x z ≡ Greater
  greater_chain x y z a b = turned_round z x Less (o.trans z y x (turned_round y z Greater b) (turned_round x y Greater a))

  -- what comes after one end comes after each that is before it
  pub far : (t a b : K) (strict other : Bool) → R a b ≡ Greater → comes_after (R t a) strict ≡ true → comes_after (R t b) other ≡ true
  far t a b strict other behind h = at (R t a) refl
    where
      at : (r : Ordering) → R t a ≡ r → comes_after (R t b) other ≡ true
      at Less is = absurd (cc (sym (ap (λ r. comes_after r strict) is) ∙ h))
      at Equal is = ap (λ r. comes_after r other) (o.congr t a b is ∙ behind)
      at Greater is = ap (λ r. comes_after r other) (greater_chain t a b is behind)

  pub same_place : (t a b : K) → R a b ≡ Equal → R t a ≡ R t b
  same_place t a b h = o.antisymm t a ∙ ap ordering_reverse (o.congr a b t h) ∙ sym (o.antisymm t b)

  -- past a strict end
  pub past : (r : Ordering) (other : Bool) → comes_after r true ≡ true → comes_after r other ≡ true
  past Less other h = absurd (cc h)
  past Equal other h = absurd (cc h)
  past Greater other h = refl

  -- at an end that isn't strict
  pub reached : (r : Ordering) (other : Bool) → comes_after r other ≡ true → comes_after r false ≡ true
  reached Less other h = h
  reached Equal other h = refl
  reached Greater other h = refl

  pub asks_more : (t a b : K) (strict other : Bool) → comes_after (R a b) (not strict) ≡ true → comes_after (R t a) strict ≡ true → comes_after (R t b) other ≡ true
  asks_more t a b strict other more h = at (R a b) refl strict more h
    where
      at : (r : Ordering) → R a b ≡ r → (strict : Bool) → comes_after (R a b) (not strict) ≡ true → comes_after (R t a) strict ≡ true → comes_after (R t b) other ≡ true
      at Less is strict more h = absurd (cc (sym (ap (λ r. comes_after r (not strict)) is) ∙ more))
      at Greater is strict more h = far t a b strict other is h
      at Equal is false more h = absurd (cc (sym (ap (λ r. comes_after r true) is) ∙ more))
      at Equal is true more h = past (R t b) other (ap (λ r. comes_after r true) (sym (same_place t a b is)) ∙ h)

  pub asks_less : (t a b : K) (strict other : Bool) → comes_after (R a b) (not strict) ≡ false → comes_after (R t b) other ≡ true → comes_after (R t a) strict ≡ true
  asks_less t a b strict other less h = at (R a b) refl strict less
    where
      at : (r : Ordering) → R a b ≡ r → (strict : Bool) → comes_after (R a b) (not strict) ≡ false → comes_after (R t a) strict ≡ true
      at Less is strict less = far t b a other strict (turned_round a b Less is) h
      at Greater is strict less = absurd (cc (sym (ap (λ r. comes_after r (not strict)) is) ∙ less))
      at Equal is true less = absurd (cc (sym (ap (λ r. comes_after r false) is) ∙ less))
      at Equal is false less = reached (R t a) other (ap (λ r. comes_after r other) (same_place t a b is) ∙ h)

  pub turned_total : IsTotalOrder (λ (x y : K). R y x)
  turned_total = record { antisymm = λ x y. o.antisymm y x; trans = λ x y z a b. o.trans z y x b a; congr = λ x y z h. sym (same_place z y x h) }

-- ---- ends

both_are : (a b : Bool) → (a ≡ true → b ≡ true) → (b && a) ≡ a
both_are true b h = ap (λ c. c && true) (h refl)
both_are false true h = refl
both_are false false h = refl

one_does : (a b : Bool) → (b ≡ true → a ≡ true) → b ≡ (b && a)
one_does a true h = sym (h refl)
one_does a false h = refl

module _ (text : List ℕ) where
  pub lower-more : (a : Option (List ℕ)) (s : Bool) (b : Option (List ℕ)) (other : Bool) → starts_behind a s b ≡ true → not_before a s text ≡ true → not_before b other text ≡ true
  lower-more None s b other more h = absurd (cc more)
  lower-more (Some a) s None other more h = refl
  lower-more (Some a) s (Some b) other more h = asks_more (slice_cmp nat_cmp) nat_list_cmp_total text a b s other more h

  lower-less : (a : Option (List ℕ)) (s : Bool) (b : Option (List ℕ)) (other : Bool) → starts_behind a s b ≡ false → not_before b other text ≡ true → not_before a s text ≡ true
  lower-less None s b other less h = refl
  lower-less (Some a) s None other less h = absurd (cc less)
  lower-less (Some a) s (Some b) other less h = asks_less (slice_cmp nat_cmp) nat_list_cmp_total text a b s other less h

  pub upper-more : (a : Option (List ℕ)) (s : Bool) (b : Option (List ℕ)) (other : Bool) → ends_before a s b ≡ true → not_after a s text ≡ true → not_after b other text ≡ true
  upper-more None s b other more h = absurd (cc more)
  upper-more (Some a) s None other more h = refl
  upper-more (Some a) s (Some b) other more h = asks_more (λ x y. slice_cmp nat_cmp y x) (turned_total (slice_cmp nat_cmp) nat_list_cmp_total) text a b s other more h

  pub upper-less : (a : Option (List ℕ)) (s : Bool) (b : Option (List ℕ)) (other : Bool) → ends_before a s b ≡ false → not_after b other text ≡ true → not_after a s text ≡ true
  upper-less None s b other less h = refl
  upper-less (Some a) s None other less h = absurd (cc less)
  upper-less (Some a) s (Some b) other less h = asks_less (λ x y. slice_cmp nat_cmp y x) (turned_total (slice_cmp nat_cmp) nat_list_cmp_total) text a b s other less h

  swapped : (a b c : Bool) → ((a && b) && c) ≡ ((a && c) && b)
  swapped false b c = refl
  swapped true true true = refl
  swapped true true false = refl
  swapped true false true = refl
  swapped true false false = refl

  regrouped : (a b c : Bool) → ((a && b) && c) ≡ (a && (b && c))
  regrouped true b c = refl
  regrouped false b c = refl

  -- a range whose lower end gives way to one that asks more
  pub lower-raised : (a : Option (List ℕ)) (s : Bool) (b : Option (List ℕ)) (other upper : Bool) → starts_behind a s b ≡ true → (not_before a s text && upper) ≡ ((not_before b other text && upper) && not_before a s text)
  lower-raised a s b other upper more =
      ap (λ c. c && upper) (sym (both_are (not_before a s text) (not_before b other text) (lower-more a s b other more))) ∙ swapped (not_before b other text) (not_before a s text) upper

  pub lower-kept : (a : Option (List ℕ)) (s : Bool) (b : Option (List ℕ)) (other upper : Bool) → starts_behind a s b ≡ false → (not_before b other text && upper) ≡ ((not_before b other text && upper) && not_before a s text)
  lower-kept a s b other upper less =
      ap (λ c. c && upper) (one_does (not_before a s text) (not_before b other text) (lower-less a s b other less)) ∙ swapped (not_before b other text) (not_before a s text) upper

  pub upper-lowered : (a : Option (List ℕ)) (s : Bool) (b : Option (List ℕ)) (other lower : Bool) → ends_before a s b ≡ true → (lower && not_after a s text) ≡ ((lower && not_after b other text) && not_after a s text)
  upper-lowered a s b other lower more =
      ap (λ c. lower && c) (sym (both_are (not_after a s text) (not_after b other text) (upper-more a s b other more))) ∙ sym (regrouped lower (not_after b other text) (not_after a s text))

  pub upper-kept : (a : Option (List ℕ)) (s : Bool) (b : Option (List ℕ)) (other lower : Bool) → ends_before a s b ≡ false → (lower && not_after b other text) ≡ ((lower && not_after b other text) && not_after a s text)
  upper-kept a s b other lower less =
      ap (λ c. lower && c) (one_does (not_after a s text) (not_after b other text) (upper-less a s b other less)) ∙ sym (regrouped lower (not_after b other text) (not_after a s text))
