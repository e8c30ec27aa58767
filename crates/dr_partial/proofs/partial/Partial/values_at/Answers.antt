use Rattle.std.proofs.Common.{◌≡◌, ◌∙◌, sym, ap, subst, rules, Some, [], slice_get, unwrap_or, w64, to_z, of_z, FitsSigned}
use Rattle.std.proofs.lemmas.Int.{to_z-of_z}
use Rattle.dr_base.specs.declared.key.Key.{Key}
use Rattle.dr_base.specs.declared.row.Row.{Row}
use Rattle.dr_rollup.specs.Entries.{NoneHas}
use Rattle.dr_partial.specs.Partial.{values_at}
use Rattle.dr_partial.proofs.Made.{found-values, no-values}
use Rattle.dr_partial.proofs.partial.Partial.values_at.Goals as goal

pub returns-in-Some-get : goal.returns-in-Some-get
returns-in-Some-get c =
    let groups = c.self.inside.groups in
    let fits : FitsSigned w64 c.args.bucket = search rules in
    let key : ◌≡◌ {A = Key} (record { time = to_z w64 (of_z w64 c.args.bucket); dims = [] }) (record { time = c.args.bucket; dims = [] }) = λ j. record { time = to_z-of_z w64 c.args.bucket fits j; dims = [] } in
    let there = c.in-Some.ensures.found in
    let at : slice_get groups c.in-Some.place ≡ Some c.in-Some-get.found.now = sym c.in-Some-get.ensures in
    let same : c.in-Some-get.found.now ≡ there.0 = ap (λ o. unwrap_or o there.0) (sym at ∙ there.1) in
    let is = ap (λ (r : Row). r.key) same ∙ there.2 ∙ key in
    ap Some c.as_slice.ensures ∙ found-values c.args.bucket groups c.in-Some.place c.in-Some-get.found.now c.find.ensures.apart at is ∙ ap (values_at c.args.bucket) c.self.view_is

pub returns-in-None : goal.returns-in-None
returns-in-None c =
    let groups = c.self.inside.groups in
    let fits : FitsSigned w64 c.args.bucket = search rules in
    let key : ◌≡◌ {A = Key} (record { time = to_z w64 (of_z w64 c.args.bucket); dims = [] }) (record { time = c.args.bucket; dims = [] }) = λ j. record { time = to_z-of_z w64 c.args.bucket fits j; dims = [] } in
    no-values c.args.bucket groups (subst (λ (k : Key). NoneHas k groups) key (c.find.ensures.none c.in-None.is)) ∙ ap (values_at c.args.bucket) c.self.view_is
