-- Groups with one row more.
use Rattle.std.proofs.Common.{◌≡◌, ◌∙◌, sym, refl, ap, subst, ℕ, suc, true, false, List, [], ◌∷◌, ◌++◌, map, length, Result, Ok, Err, OnOk, arith}
use Rattle.std.specs.List.{IsDistinct}
use Rattle.dr_base.specs.declared.key.Key.{Key}
use Rattle.dr_base.specs.declared.row.Row.{Row}
use Rattle.dr_agg.specs.declared.kind.Kind.{Kind}
use Rattle.dr_agg.specs.Combination.{FitsColumns}
use Rattle.dr_agg.specs.Rollup.{IsRollup, rollup, add_row}
use Rattle.dr_agg.proofs.RollupLaws.{IsRollup-rollup, same_rollup}
use Rattle.dr_rollup.specs.Entries.{same_keys, HasKeyAt, NoneHas}
use Rattle.dr_rollup.specs.Sound as rows
use Rattle.dr_rollup.proofs.Growing.{sound-combined, rows-combined, sound-added, rows-added}
use Rattle.dr_partial.specs.Grouped.{IsSound, Adds, CombinesAt, in_order}
use Rattle.dr_rollup.proofs.Rows.{alone}

-- ---- groups that are apart

-- in the order of their keys they are their rollup, since there is nothing to combine
pub in_order-rollup : (kinds : List Kind) (groups : List Row) → IsDistinct same_keys (map (λ g. g.key) groups) → in_order groups ≡ rollup true kinds groups
in_order-rollup kinds groups d =
    let own = IsRollup-rollup false [] groups in
    let is : IsRollup true kinds groups (in_order groups) = record { ordered = own.ordered; each = λ q. own.each q ∙ sym (alone kinds q groups d) } in
    same_rollup true kinds groups (in_order groups) (rollup true kinds groups) is (IsRollup-rollup true kinds groups)

-- ---- one more row

module _ (kinds : List Kind) (groups : List Row) (so : IsSound kinds groups) where
  sound : rows.IsSound kinds (suc (length groups)) true groups
  sound = record { fits = so.fits; within = omega arith; apart = λ on. so.apart }

  made-adds : (g : Row) (after : List Row) → rows.IsSound kinds (suc (length groups)) true after → rollup true kinds after ≡ add_row true kinds (rollup true kinds groups) g → Adds kinds groups g after
  made-adds g after holds is = record {
    sound = record { fits = holds.fits; apart = holds.apart refl };
    groups = in_order-rollup kinds after (holds.apart refl) ∙ is ∙ ap (λ l. add_row true kinds l g) (sym (in_order-rollup kinds groups so.apart));
  }

  -- of a known group
  pub known-adds : (g : Row) (i : ℕ) → HasKeyAt g.key groups i → (after : List Row) → CombinesAt kinds g.metrics groups i after → Adds kinds groups g after
  known-adds g i at after combines =
      let is = combines at.0 at.1 in
      let n = suc (length groups) in
      made-adds g after
      (subst (rows.IsSound kinds n true) (sym is) (sound-combined kinds n true groups i at.0 g.metrics sound at.1))
      (ap (rollup true kinds) is ∙ rows-combined kinds n true groups i at.0 g.metrics sound at.1 refl ∙ ap (λ (k : Key). add_row true kinds (rollup true kinds groups) (record { key = k; metrics = g.metrics })) at.2)

  -- of a new one
  pub new-adds : (g : Row) → NoneHas g.key groups → FitsColumns kinds g.metrics → Adds kinds groups g (groups ++ g ∷ [])
  new-adds g none fits =
      let n = suc (length groups) in
      made-adds g (groups ++ g ∷ []) (sound-added kinds n true groups g sound (λ on. none) (omega arith) fits) (rows-added kinds n true groups g sound (λ on. none))

  pub put-adds : {E : Type 0} (g h : Row) (after : List Row) (r : Result (Unit {0}) E) → h ≡ g → NoneHas g.key groups → FitsColumns kinds g.metrics → OnOk r (after ≡ groups ++ h ∷ []) → OnOk r (Adds kinds groups g after)
  put-adds g h after (Ok u) same none fits is = subst (Adds kinds groups g) (sym (is ∙ ap (λ x. groups ++ x ∷ []) same)) (new-adds g none fits)
  put-adds g h after (Err e) same none fits is = tt
