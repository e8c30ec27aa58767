-- The rows of an image stand in the order of their keys.
use Rattle.std.proofs.Common.{◌≡◌, sym, ap, subst, refl, ◌&&◌, Bool, true, false, List, [], ◌∷◌, ℕ, true≢false}
use Rattle.std.specs.List.{AllByRecursion}
use Rattle.std.specs.declared.cmp.Ordering.TheVariants.{Less, Equal, Greater}
use Rattle.std.specs.Ordering.{is_lt}
use Rattle.dr_base.specs.declared.key.Key.{Key}
use Rattle.dr_base.specs.declared.row.Row.{Row}
use Rattle.dr_base.specs.Order.{key_cmp}
use Rattle.dr_agg.specs.Rollup.{IsInOrder}
use Rattle.dr_agg.proofs.KeyOrder.{same_key, less_back, equal_back, not_below}
use Rattle.dr_image.specs.Sealed.{each_next, goes_on, may_follow}
use Rattle.dr_image.specs.Table.{rows_of}
use Rattle.dr_image.specs.Layout.{read_table}
use Rattle.dr_image.specs.Laws.{IsImage}
use Rattle.dr_image.proofs.LawLemmas.{image_sealed}
use Rattle.dr_image.specs.Sealed.{Sealed}

both : (a b : Bool) → (a && b) ≡ true → (a ≡ true) × (b ≡ true)
both true b h = (refl, h)
both false b h = absurd (true≢false (sym h))

-- what isn't below a key isn't below one that the key may follow
not_below_all : (x y : Key) → key_cmp x y ≡ Less → (rows : List Row) → AllByRecursion (λ r. is_lt (key_cmp r.key y) ≡ false) rows → AllByRecursion (λ r. is_lt (key_cmp r.key x) ≡ false) rows
not_below_all x y less [] all = tt
not_below_all x y less (r ∷ rows) all = (not_below x y r.key less all.0, not_below_all x y less rows all.1)

pub in_order_next : (rollup : Bool) (rows : List Row) → each_next (may_follow rollup) rows ≡ true → IsInOrder rows
unfolding each_next
in_order_next rollup [] h = tt
in_order_next rollup (x ∷ []) h = (tt, tt)
in_order_next rollup (x ∷ y ∷ ys) h =
    let two = both (may_follow rollup x y) (each_next (may_follow rollup) (y ∷ ys)) h in
    let rest = in_order_next rollup (y ∷ ys) two.1 in
    elim (key_cmp x.key y.key) as (λ o. key_cmp x.key y.key ≡ o → goes_on rollup o ≡ true → IsInOrder (x ∷ y ∷ ys)) [
      | Less ↦ λ t g. ((ap is_lt (less_back x.key y.key t), not_below_all x.key y.key t ys rest.0), rest)
      | Equal ↦ λ t g. ((ap is_lt (equal_back x.key y.key t), subst (λ k. AllByRecursion (λ r. is_lt (key_cmp r.key k) ≡ false) ys) (sym (same_key x.key y.key t)) rest.0), rest)
      | Greater ↦ λ t g. absurd (elim rollup as (λ b. goes_on b Greater ≡ true → ⊥) [ true ↦ λ e. true≢false (sym e) | false ↦ λ e. true≢false (sym e) ] g)
    ] refl two.0

pub image_in_order : (bytes : List ℕ) → IsImage bytes → IsInOrder (rows_of (read_table bytes))
image_in_order bytes is =
    let same = ap (λ (s : Sealed). s.rows) (image_sealed bytes is.sealed is.is) in
    subst IsInOrder (sym same) (in_order_next is.sealed.rollup is.sealed.rows is.is.has.order)
