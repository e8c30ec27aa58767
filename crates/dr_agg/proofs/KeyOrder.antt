-- The order of keys.
use Rattle.std.proofs.Common.{◌≡◌, ◌∙◌, sym, refl, ap, false}
use Rattle.std.specs.declared.cmp.Ordering.{Ordering}
use Rattle.std.specs.declared.cmp.Ordering.TheVariants.{Less, Equal, Greater}
use Rattle.std.specs.Ordering.{ordering_reverse, ordering_then, is_lt, is_eq, eq_by_cmp, int_cmp}
use Rattle.std.specs.Cmp.{IsTotalOrder, on_total, then_total, int_cmp_total}
use Rattle.std.proofs.lemmas.Cmp.{tied_itself, tied_back}
use Rattle.std.specs.Cmp.Lexicographic.{lists_total, nat_list_cmp_total}
use Rattle.std.specs.FinMap.{int_cmp-IsAntisymmetric, nat_cmp-IsAntisymmetric, slice_cmp-IsAntisymmetric}
use Rattle.dr_base.specs.declared.key.Key.{Key}
use Rattle.dr_base.specs.Order.{key_cmp}

pub key_cmp_total : IsTotalOrder key_cmp
key_cmp_total = then_total (on_total (λ k. k.time) int_cmp_total) (on_total (λ k. k.dims) (lists_total nat_list_cmp_total))

both_equal : (o p : Ordering) → ordering_then o p ≡ Equal → (o ≡ Equal) × (p ≡ Equal)
both_equal Less p h = cc
both_equal Equal p h = (refl, h)
both_equal Greater p h = cc

-- keys that compare as equal are equal
pub same_key : (a b : Key) → key_cmp a b ≡ Equal → a ≡ b
same_key a b h =
    let p = both_equal (int_cmp a.time b.time) _ h in
    let t : a.time ≡ b.time = int_cmp-IsAntisymmetric a.time b.time p.0 in
    let d : a.dims ≡ b.dims = slice_cmp-IsAntisymmetric (slice_cmp-IsAntisymmetric nat_cmp-IsAntisymmetric) a.dims b.dims p.1 in
    λ i. record { time = t i; dims = d i }

pub itself : (a : Key) → key_cmp a a ≡ Equal
itself a = tied_itself key_cmp_total a

pub equal_back : (a b : Key) → key_cmp a b ≡ Equal → key_cmp b a ≡ Equal
equal_back a b h = tied_back key_cmp_total a b h

pub less_back : (a b : Key) → key_cmp a b ≡ Less → key_cmp b a ≡ Greater
less_back a b h = key_cmp_total.antisymm b a ∙ ap ordering_reverse h

pub greater_back : (a b : Key) → key_cmp a b ≡ Greater → key_cmp b a ≡ Less
greater_back a b h = key_cmp_total.antisymm b a ∙ ap ordering_reverse h

-- a key below another isn't one that isn't below it
pub below_differs : (q x y : Key) → key_cmp q x ≡ Less → is_lt (key_cmp y x) ≡ false → eq_by_cmp key_cmp q y ≡ false
below_differs q x y less h =
    elim (key_cmp q y) as (λ o. key_cmp q y ≡ o → is_eq o ≡ false)
    [ Less ↦ λ t. refl | Equal ↦ λ t. ap is_lt (sym less) ∙ ap is_lt (key_cmp_total.congr q y x t) ∙ h | Greater ↦ λ t. refl ] refl

-- a key that equals another isn't one above that
pub above_differs : (q x y : Key) → key_cmp q x ≡ Equal → key_cmp x y ≡ Less → eq_by_cmp key_cmp q y ≡ false
above_differs q x y e less = ap is_eq (key_cmp_total.congr q x y e ∙ less)

-- what isn't below a key isn't below one that is below that
pub not_below : (r x y : Key) → key_cmp r x ≡ Less → is_lt (key_cmp y x) ≡ false → is_lt (key_cmp y r) ≡ false
not_below r x y less h =
    elim (key_cmp y r) as (λ o. key_cmp y r ≡ o → is_lt o ≡ false)
    [ Less ↦ λ t. ap is_lt (sym (key_cmp_total.trans y r x t less)) ∙ h | Equal ↦ λ t. refl | Greater ↦ λ t. refl ] refl
