use Rattle.std.proofs.Common.{◌≡◌, ◌∙◌, ap, sym, subst, IfSome, List, is_some, true, length, ◌++◌, ◌∷◌, [], rules}
use Rattle.dr_base.specs.declared.key.Key.{Key}
use Rattle.dr_rollup.specs.HeldRows.{HeldRows}
use Rattle.dr_rollup.specs.Entries.{NoneHas}
use Rattle.dr_rollup.specs.Placed.{AreFound, IsNew}
use Rattle.dr_rollup.specs.WideRows.{WideRows, keys_in}
use Rattle.dr_rollup.proofs.Standing.{is-new, keys-further, keys-counted}
use Rattle.dr_rollup.proofs.entries.Entries.put.Goals as goal

pub invariant_of-self : goal.invariant_of-self
invariant_of-self c =
    let k : Key = record { time = c.args.key.now.time; dims = c.args.key.now.dims.now } in
    let s = c.self.inside in
    let fresh : is_some s.places ≡ true → IsNew (keys_in s.rows) k = λ some. is-new k s.rows.rows (subst (λ (h : HeldRows). NoneHas k h.rows) (sym c.self.view_is) (c.requires.new (ap (λ (h : HeldRows). h.combines) (sym c.self.view_is) ∙ some))) in
    c.place.ensures.kept (keys_in s.rows) fresh c.self.invariant

pub invariant_of-self-in_err-put : goal.invariant_of-self-in_err-put
invariant_of-self-in_err-put c =
    let k : Key = record { time = c.args.key.now.time; dims = c.args.key.now.dims.now } in
    let s = c.self.inside in
    let fresh : is_some s.places ≡ true → IsNew (keys_in s.rows) k = λ some. is-new k s.rows.rows (subst (λ (h : HeldRows). NoneHas k h.rows) (sym c.self.view_is) (c.requires.new (ap (λ (h : HeldRows). h.combines) (sym c.self.view_is) ∙ some))) in
    let same : c.put.new.self ≡ s.rows = search rules in
    subst (λ (w : WideRows). IfSome c.place.new.places (AreFound (keys_in w))) (sym same) (c.place.ensures.kept (keys_in s.rows) fresh c.self.invariant)

pub invariant_of-self-2 : goal.invariant_of-self-2
invariant_of-self-2 c =
    let k : Key = record { time = c.args.key.now.time; dims = c.args.key.now.dims.now } in
    let s = c.self.inside in
    let fresh : is_some s.places ≡ true → IsNew (keys_in s.rows) k = λ some. is-new k s.rows.rows (subst (λ (h : HeldRows). NoneHas k h.rows) (sym c.self.view_is) (c.requires.new (ap (λ (h : HeldRows). h.combines) (sym c.self.view_is) ∙ some))) in
    let here : c.len.result ≡ length (keys_in s.rows) = c.len.ensures ∙ sym (keys-counted s.rows.rows) in
    let keys : keys_in c.put.new.self ≡ keys_in s.rows ++ k ∷ [] = ap keys_in (c.in_ok-put.ensures.ok) ∙ keys-further s.rows.rows _ in
    subst (λ (l : List Key). IfSome c.place.new.places (AreFound l)) (sym keys) (c.in_ok-place.ensures.put (keys_in s.rows) fresh here c.self.invariant)
