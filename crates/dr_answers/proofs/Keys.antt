-- Rising keys are known by which keys are among them.
use Rattle.std.proofs.Common.{◌≡◌, ◌∙◌, sym, refl, ap, true, List, [], ◌∷◌, map, cond, ◌||◌}
use Rattle.std.specs.List.{list_any, fold}
use Rattle.std.specs.declared.cmp.Ordering.TheVariants.{Less, Equal, Greater}
use Rattle.std.specs.Ordering.{match_ordering, is_eq, eq_by_cmp}
use Rattle.dr_base.specs.declared.key.Key.{Key}
use Rattle.dr_base.specs.declared.row.Row.{Row}
use Rattle.dr_base.specs.Order.{key_cmp}
use Rattle.dr_agg.specs.Rollup.{rows_at, combined, together, joined, add_row, rollup_onto, rollup}
use Rattle.dr_agg.proofs.KeyOrder.{same_key}
use Rattle.dr_agg.proofs.RollupLaws.{same_from_each}
use Rattle.dr_answers.specs.Groups.{with_group}

-- a key as a row without a column: keys that rise are a rollup of such rows
abbrev bare : Key → Row
bare k = record { key = k; metrics = [] }

keys-bare : (ks : List Key) → map (λ r. r.key) (map bare ks) ≡ ks
keys-bare [] = refl
keys-bare (k ∷ ks) = ap (λ l. k ∷ l) (keys-bare ks)

bare-with_group : (gs : List Key) (g : Key) → map bare (with_group gs g) ≡ add_row true [] (map bare gs) (bare g)
unfolding add_row
bare-with_group [] g = refl
bare-with_group (h ∷ hs) g =
    elim (key_cmp g h) as (λ o. map bare (match_ordering o (g ∷ h ∷ hs) (h ∷ hs) (h ∷ with_group hs g)) ≡ match_ordering o (bare g ∷ bare h ∷ map bare hs) (joined [] (bare h) (bare g) ∷ map bare hs) (bare h ∷ add_row true [] (map bare hs) (bare g)))
    [ Less ↦ refl | Equal ↦ refl | Greater ↦ ap (λ l. bare h ∷ l) (bare-with_group hs g) ]

bare-groups : (gs ks : List Key) → map bare (fold with_group gs ks) ≡ rollup_onto true [] (map bare gs) (map bare ks)
unfolding rollup_onto
bare-groups gs [] = refl
bare-groups gs (k ∷ ks) = bare-groups (with_group gs k) ks ∙ ap (λ l. rollup_onto true [] l (map bare ks)) (bare-with_group gs k)

combined-bare : (rows : List Row) → combined [] [] rows ≡ []
combined-bare [] = refl
combined-bare (r ∷ rows) = combined-bare rows

-- at a key there is one row, where it is among the keys
together-bare : (q : Key) (ks : List Key) → together true [] (rows_at q (map bare ks)) ≡ cond (list_any (eq_by_cmp key_cmp q) ks) (bare q ∷ []) []
together-bare q [] = refl
together-bare q (k ∷ ks) =
    let rest : List Row = rows_at q (map bare ks) in
    elim (key_cmp q k) as (λ o. key_cmp q k ≡ o → together true [] (cond (is_eq o) (bare k ∷ rest) rest) ≡ cond (is_eq o || list_any (eq_by_cmp key_cmp q) ks) (bare q ∷ []) []) [
      | Less ↦ λ t. together-bare q ks
      | Equal ↦ λ t. λ i. record { key = sym (same_key q k t) i; metrics = combined-bare rest i } ∷ []
      | Greater ↦ λ t. together-bare q ks
    ] refl

-- so the groups of keys are known
pub same_groups : (ks js : List Key) → ((q : Key) → list_any (eq_by_cmp key_cmp q) ks ≡ list_any (eq_by_cmp key_cmp q) js) → fold with_group [] ks ≡ fold with_group [] js
same_groups ks js h =
    let rolled : rollup true [] (map bare ks) ≡ rollup true [] (map bare js) =
    same_from_each true [] (map bare ks) (map bare js) (λ q. together-bare q ks ∙ ap (λ b. cond b (bare q ∷ []) []) (h q) ∙ sym (together-bare q js)) in
    sym (keys-bare (fold with_group [] ks))
    ∙ ap (map (λ r. r.key)) (bare-groups [] ks ∙ rolled ∙ sym (bare-groups [] js))
    ∙ keys-bare (fold with_group [] js)
