-- The rows of a range that has an image are their own rollup.
use Rattle.std.proofs.Common.{◌≡◌, ◌∙◌, sym, refl, ap, ◌&&◌, Bool, true, false, List, [], ◌∷◌, ◌++◌, map, append-nil, append_assoc}
use Rattle.std.specs.List.{AllByRecursion}
use Rattle.std.specs.Ordering.{is_lt, is_le, match_ordering}
use Rattle.std.specs.declared.cmp.Ordering.{Ordering}
use Rattle.std.specs.declared.cmp.Ordering.TheVariants.{Less, Equal, Greater}
use Rattle.dr_base.specs.declared.row.Row.{Row}
use Rattle.dr_base.specs.Order.{key_cmp}
use Rattle.dr_agg.specs.declared.kind.Kind.{Kind}
use Rattle.dr_agg.specs.Rollup.{joined, add_row, rollup_onto, rollup, join}
use Rattle.dr_agg.proofs.KeyOrder.{key_cmp_total, same_key, equal_back, less_back}
use Rattle.dr_schema.specs.Columns.{kinds_of}
use Rattle.dr_schema.specs.declared.schema.Schema.{Schema}
use Rattle.dr_image.specs.Sealed.{HasImage, each_next, may_follow}
use Rattle.dr_fragment.specs.declared.fragment.Fragment.{Fragment}
use Rattle.dr_merge.specs.Joined.{sealed_fragment}
use Rattle.dr_merge.proofs.Joins.{all-append}
use Rattle.dr_merge.proofs.Rolled.{all_in}

less_of : (o : Ordering) → is_lt o ≡ true → o ≡ Less
less_of Less h = refl
less_of Equal h = absurd cc
less_of Greater h = absurd cc

and_left : (a b : Bool) → (a && b) ≡ true → a ≡ true
and_left true b h = refl
and_left false b h = absurd cc

and_right : (a b : Bool) → (a && b) ≡ true → b ≡ true
and_right true b h = h
and_right false b h = absurd cc

-- a row that may stand behind one that may stand behind another
follows_far : (combines : Bool) (x y z : Row) → may_follow combines x y ≡ true → may_follow combines y z ≡ true → may_follow combines x z ≡ true
follows_far true x y z h k = ap is_lt (key_cmp_total.trans x.key y.key z.key (less_of (key_cmp x.key y.key) h) (less_of (key_cmp y.key z.key) k))
follows_far false x y z h k =
    elim (key_cmp x.key y.key) as (λ o. key_cmp x.key y.key ≡ o → is_le o ≡ true → is_le (key_cmp x.key z.key) ≡ true) [
      | Less ↦ λ t h. elim (key_cmp y.key z.key) as (λ o. key_cmp y.key z.key ≡ o → is_le o ≡ true → is_le (key_cmp x.key z.key) ≡ true) [
        | Less ↦ λ u k. ap is_le (key_cmp_total.trans x.key y.key z.key t u)
        | Equal ↦ λ u k. ap (λ q. is_le (key_cmp x.key q)) (sym (same_key y.key z.key u)) ∙ ap is_le t
        | Greater ↦ λ u k. absurd cc
      ] refl k
      | Equal ↦ λ t h. ap (λ q. is_le (key_cmp q z.key)) (same_key x.key y.key t) ∙ k
      | Greater ↦ λ t h. absurd cc
    ] refl h

-- what is added behind a row
passes : (combines : Bool) (kinds : List Kind) (x r : Row) (xs : List Row) → may_follow combines x r ≡ true → add_row combines kinds (x ∷ xs) r ≡ x ∷ add_row combines kinds xs r
unfolding add_row
passes true kinds x r xs h =
    ap (λ o. match_ordering o (r ∷ x ∷ xs) (joined kinds x r ∷ xs) (x ∷ add_row true kinds xs r)) (less_back x.key r.key (less_of (key_cmp x.key r.key) h))
passes false kinds x r xs h =
    elim (key_cmp x.key r.key) as (λ o. key_cmp x.key r.key ≡ o → is_le o ≡ true → match_ordering (key_cmp r.key x.key) (r ∷ x ∷ xs) (x ∷ add_row false kinds xs r) (x ∷ add_row false kinds xs r) ≡ x ∷ add_row false kinds xs r) [
      | Less ↦ λ t h. ap (λ o. match_ordering o (r ∷ x ∷ xs) (x ∷ add_row false kinds xs r) (x ∷ add_row false kinds xs r)) (less_back x.key r.key t)
      | Equal ↦ λ t h. ap (λ o. match_ordering o (r ∷ x ∷ xs) (x ∷ add_row false kinds xs r) (x ∷ add_row false kinds xs r)) (equal_back x.key r.key t)
      | Greater ↦ λ t h. absurd cc
    ] refl h

behind : (combines : Bool) (kinds : List Kind) (rows : List Row) (r : Row) → AllByRecursion (λ x. may_follow combines x r ≡ true) rows → add_row combines kinds rows r ≡ rows ++ r ∷ []
unfolding add_row
behind combines kinds [] r all = refl
behind combines kinds (x ∷ xs) r all = passes combines kinds x r xs all.0 ∙ ap (λ rs. x ∷ rs) (behind combines kinds xs r all.1)

onto : (combines : Bool) (kinds : List Kind) (pre : List Row) (r : Row) (rs : List Row) → AllByRecursion (λ x. may_follow combines x r ≡ true) pre → each_next (may_follow combines) (r ∷ rs) ≡ true
    → rollup_onto combines kinds pre (r ∷ rs) ≡ pre ++ r ∷ rs
unfolding rollup_onto each_next
onto combines kinds pre r [] all next = behind combines kinds pre r all
onto combines kinds pre r (s ∷ ss) all next =
    let step : may_follow combines r s ≡ true = and_left (may_follow combines r s) (each_next (may_follow combines) (s ∷ ss)) next in
    let rest : each_next (may_follow combines) (s ∷ ss) ≡ true = and_right (may_follow combines r s) (each_next (may_follow combines) (s ∷ ss)) next in
    let far = all_in (λ x. may_follow combines x r ≡ true) (λ x. may_follow combines x s ≡ true) (λ x h. follows_far combines x r s h step) pre all in
    let each = all-append (λ x. may_follow combines x s ≡ true) pre (r ∷ []) far (step, tt) in
    ap (λ rows. rollup_onto combines kinds rows (s ∷ ss)) (behind combines kinds pre r all) ∙ onto combines kinds (pre ++ r ∷ []) s ss each rest ∙ append_assoc pre (r ∷ []) (s ∷ ss)

rollup-own : (combines : Bool) (kinds : List Kind) (rows : List Row) → each_next (may_follow combines) rows ≡ true → rollup combines kinds rows ≡ rows
unfolding rollup_onto
rollup-own combines kinds [] next = refl
rollup-own combines kinds (r ∷ rs) next = onto combines kinds [] r rs tt next

-- the rows of an only input are its join
pub join-alone : (schema : Schema) (inputs : List Fragment) (rows : List Row) → AllByRecursion (λ f. HasImage (sealed_fragment schema f)) inputs → map (λ f. f.rows) inputs ≡ rows ∷ []
    → rows ≡ join schema.rollup (kinds_of schema) (map (λ f. f.rows) inputs)
join-alone schema [] rows has e = absurd cc
join-alone schema (f ∷ []) rows has e =
    let same : f.rows ≡ rows = cc in
    sym (ap (rollup schema.rollup (kinds_of schema)) (append-nil f.rows) ∙ rollup-own schema.rollup (kinds_of schema) f.rows has.0.order ∙ same)
join-alone schema (f ∷ g ∷ fs) rows has e = absurd cc
