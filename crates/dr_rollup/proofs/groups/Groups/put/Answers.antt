use Rattle.std.proofs.Common.{◌≡◌, ◌∙◌, ap, sym, subst, List, length, map, ◌++◌, ◌∷◌, [], rules, ℕ, FitsSigned, w64, to_z}
use mir.Val.{of_z}
use Rattle.std.proofs.lemmas.Int.{to_z-of_z}
use Rattle.dr_base.specs.declared.key.Key.{Key}
use Rattle.dr_base.specs.declared.row.Row.{Row}
use Rattle.std.specs.List.{IsDistinct}
use Rattle.dr_rollup.specs.Entries.{same_keys, NoneHas}
use Rattle.dr_rollup.proofs.Growing.{keys-apart}
use Rattle.dr_rollup.specs.Placed.{AreFound, IsNew}
use Rattle.dr_rollup.proofs.Standing.{is-new, keys-further, keys-counted}
use Rattle.dr_rollup.proofs.groups.Groups.put.Goals as goal

abbrev keys : List Row → List Key
keys rows = map (λ r. r.key) rows

-- the key as it is looked for
same-key : (k : Key) (dims : List (List ℕ)) → FitsSigned w64 k.time → dims ≡ k.dims → k ≡ record { time = to_z w64 (of_z w64 k.time); dims = dims }
same-key k dims fits same = λ i. record { time = sym (to_z-of_z w64 k.time fits) i; dims = sym same i }

pub invariant_of-self-in_err-put : goal.invariant_of-self-in_err-put
invariant_of-self-in_err-put c =
    let s = c.self.inside in
    let fresh : IsNew (keys s.rows.items) c.args.key = is-new c.args.key s.rows.items (subst (NoneHas c.args.key) (sym c.self.view_is) c.requires) in
    let f : FitsSigned w64 c.args.key.time = search rules in
    let sought = same-key c.args.key c.as_slice.result.now f c.as_slice.ensures in
    let same : c.reserve.new.self.items ≡ s.rows.items = search rules in
    subst (λ (l : List Row). AreFound (keys l) c.put.new.self × IsDistinct same_keys (keys l)) (sym same) (c.put.ensures.kept (keys s.rows.items) (subst (IsNew (keys s.rows.items)) sought fresh) c.self.invariant.0, c.self.invariant.1)

pub invariant_of-self-2 : goal.invariant_of-self-2
invariant_of-self-2 c =
    let s = c.self.inside in
    let row : Row = record { key = c.args.key; metrics = c.args.metrics } in
    let fresh : IsNew (keys s.rows.items) c.args.key = is-new c.args.key s.rows.items (subst (NoneHas c.args.key) (sym c.self.view_is) c.requires) in
    let f : FitsSigned w64 c.args.key.time = search rules in
    let sought = same-key c.args.key c.as_slice.result.now f c.as_slice.ensures in
    let same : c.reserve.new.self.items ≡ s.rows.items = search rules in
    let here : c.len.result ≡ length (keys s.rows.items) = search (same, rules) ∙ sym (keys-counted s.rows.items) in
    let all : c.push.new.self.items ≡ s.rows.items ++ row ∷ [] = search (same, rules) in
    let none = subst (NoneHas c.args.key) (sym c.self.view_is) c.requires in
    (subst (λ (l : List Key). AreFound l c.put.new.self) (sym (ap keys all ∙ keys-further s.rows.items row)) (subst (λ (k : Key). AreFound (keys s.rows.items ++ k ∷ []) c.put.new.self) (sym sought) (c.in_ok-put.ensures.put (keys s.rows.items) (subst (IsNew (keys s.rows.items)) sought fresh) here c.self.invariant.0)), subst (λ (l : List Row). IsDistinct same_keys (keys l)) (sym all) (keys-apart s.rows.items row c.self.invariant.1 none))
