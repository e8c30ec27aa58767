-- Ranges of texts, and texts that stand in order.
use Rattle.std.proofs.Common.{◌≡◌, ◌∙◌, sym, refl, ap, Bool, true, false, ℕ, List, Option, Some, None}
use Rattle.std.specs.Cmp.{IsTotalOrder}
use Rattle.std.specs.Ordering.{nat_cmp, is_lt}
use Rattle.std.specs.Cmp.Lexicographic.{slice_cmp, nat_list_cmp_total}
use Rattle.std.specs.declared.cmp.Ordering.{Ordering}
use Rattle.std.specs.declared.cmp.Ordering.TheVariants.{Less, Equal, Greater}
use Rattle.dr_predicate.specs.declared.bounds.Bounds.{Bounds}
use Rattle.dr_predicate.specs.Within.{comes_after, not_before, not_after}
use Rattle.dr_predicate.specs.Ranges.{begun, unended}
use Rattle.dr_predicate.proofs.Ends.{far, same_place}

module _ {K : Type 0} (R : K → K → Ordering) (o : IsTotalOrder R) where
  later : (t u low : K) (strict : Bool) → is_lt (R u t) ≡ false → comes_after (R t low) strict ≡ true → comes_after (R u low) strict ≡ true
  later t u low strict behind h = at (R u t) refl (R t low) refl
    where
      at : (r : Ordering) → R u t ≡ r → (q : Ordering) → R t low ≡ q → comes_after (R u low) strict ≡ true
      at Less is q was = absurd (cc (sym (ap is_lt is) ∙ behind))
      at Equal is q was = ap (λ r. comes_after r strict) (o.congr u t low is) ∙ h
      at Greater is Less was = absurd (cc (sym (ap (λ r. comes_after r strict) was) ∙ h))
      at Greater is Equal was = ap (λ r. comes_after r strict) (sym (same_place R o u t low was) ∙ is)
      at Greater is Greater was = far R o u t low strict strict was (ap (λ r. comes_after r strict) is)

  earlier : (t u high : K) (strict : Bool) → is_lt (R u t) ≡ false → comes_after (R high u) strict ≡ true → comes_after (R high t) strict ≡ true
  earlier t u high strict behind h = at (R u t) refl
    where
      at : (r : Ordering) → R u t ≡ r → comes_after (R high t) strict ≡ true
      at Less is = absurd (cc (sym (ap is_lt is) ∙ behind))
      at Equal is = ap (λ r. comes_after r strict) (sym (same_place R o high u t is)) ∙ h
      at Greater is = far R o high u t strict strict is h

-- what a text is past, a later one is past
pub begun-later : (t u : List ℕ) (b : Bounds) → is_lt (slice_cmp nat_cmp u t) ≡ false → begun t b ≡ true → begun u b ≡ true
begun-later t u b behind h = at b.lower h
  where
    at : (lower : Option (List ℕ)) → not_before lower b.lower_strict t ≡ true → not_before lower b.lower_strict u ≡ true
    at None h = refl
    at (Some low) h = later (slice_cmp nat_cmp) nat_list_cmp_total t u low b.lower_strict behind h

-- what a text isn't past, an earlier one isn't
pub unended-earlier : (t u : List ℕ) (b : Bounds) → is_lt (slice_cmp nat_cmp u t) ≡ false → unended u b ≡ true → unended t b ≡ true
unended-earlier t u b behind h = at b.upper h
  where
    at : (upper : Option (List ℕ)) → not_after upper b.upper_strict u ≡ true → not_after upper b.upper_strict t ≡ true
    at None h = refl
    at (Some high) h = earlier (slice_cmp nat_cmp) nat_list_cmp_total t u high b.upper_strict behind h
