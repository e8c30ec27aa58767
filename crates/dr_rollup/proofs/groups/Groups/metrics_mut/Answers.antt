use Rattle.std.proofs.Common.{◌≡◌, ◌∙◌, refl, ap, sym, subst, List, ℕ, Some, slice_get, slice_set, get_or, unwrap_or, length, ◌<◌}
use Rattle.std.specs.List.{IsDistinct}
use Rattle.std.proofs.lemmas.Option.{slice_get-get_or}
use Rattle.dr_base.specs.declared.key.Key.{Key}
use Rattle.dr_base.specs.declared.row.Row.{Row}
use Rattle.dr_rollup.specs.Entries.{same_keys}
use Rattle.dr_rollup.specs.Placed.{AreFound}
use Rattle.dr_rollup.proofs.Growing.{keys_set, set-with}
use Rattle.dr_rollup.proofs.groups.Groups.metrics_mut.Goals as goal

-- the row that stands at a place
there : (rows now : List Row) (place : ℕ) (row : Row) → rows ≡ now → place < length now → row ≡ get_or rows place row → slice_get now place ≡ Some row
there rows now place row same less is = slice_get-get_or now place row less ∙ ap Some (ap (λ (l : List Row). get_or l place row) (sym same) ∙ sym is)

pub invariant_of-self-lent : goal.invariant_of-self-lent
invariant_of-self-lent c = λ w.
    let rows = c.self.inside.rows.items in
    let row = c.index_mut-row.result.now in
    let at : slice_get rows c.args.place ≡ Some row = ap (λ (l : List Row). slice_get l c.args.place) c.self.view_is ∙ there rows c.args.self.now c.args.place row c.self.view_is c.requires c.index_mut-row.ensures.value in
    subst (λ (l : List Key). AreFound l c.self.inside.places × IsDistinct same_keys l) (sym (keys_set rows c.args.place row w at)) c.self.invariant

pub returns : goal.returns
returns c =
    let rows = c.self.inside.rows.items in
    let row = c.index_mut-row.result.now in
    let at = there rows c.args.self.now c.args.place row c.self.view_is c.requires c.index_mut-row.ensures.value in (
      (refl, λ w. ap (λ (l : List Row). slice_set l c.args.place (record { key = row.key; metrics = w })) c.self.view_is ∙ set-with c.args.self.now c.args.place row w at),
      record { writes_back = tt; value = λ other is. ap (λ o. (unwrap_or o row).metrics) (sym at ∙ is) },
    )
