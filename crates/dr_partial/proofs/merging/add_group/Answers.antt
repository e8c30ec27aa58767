use Rattle.std.proofs.Common.{◌≡◌, refl, subst, rules, FitsSigned, w64, to_z, of_z}
use Rattle.std.proofs.lemmas.Int.{to_z-of_z}
use Rattle.dr_base.specs.declared.key.Key.{Key}
use Rattle.dr_rollup.specs.Entries.{HasKeyAt, NoneHas}
use Rattle.dr_partial.specs.Grouped.{CombinesAt}
use Rattle.dr_partial.specs.Partial.{kinds_in}
use Rattle.dr_partial.proofs.Adding.{known-adds, put-adds}
use Rattle.dr_partial.proofs.merging.add_group.Goals as goal

pub returns-in-Some : goal.returns-in-Some
returns-in-Some c =
    let ks = kinds_in c.args.aggregations.now in
    let before = c.args.groups.now in
    let after = c.combine_at.new.groups in
    let g = c.args.group in
    let fits : FitsSigned w64 g.key.time = search rules in
    let key : ◌≡◌ {A = Key} (record { time = to_z w64 (of_z w64 g.key.time); dims = c.as_slice.result.now }) g.key = λ j. record { time = to_z-of_z w64 g.key.time fits j; dims = c.as_slice.ensures j } in
    let combines = subst (λ m. CombinesAt ks m before c.in-Some.place after) c.as_slice-in-Some.ensures c.combine_at.ensures in
    known-adds ks before c.requires.sound g c.in-Some.place (subst (λ (k : Key). HasKeyAt k before c.in-Some.place) key c.in-Some.ensures.found) after combines

pub returns : goal.returns
returns c =
    let before = c.args.groups.now in
    let g = c.args.group in
    let fits : FitsSigned w64 g.key.time = search rules in
    let key : ◌≡◌ {A = Key} (record { time = to_z w64 (of_z w64 g.key.time); dims = c.as_slice.result.now }) g.key = λ j. record { time = to_z-of_z w64 g.key.time fits j; dims = c.as_slice.ensures j } in
    put-adds (kinds_in c.args.aggregations.now) before c.requires.sound g _ c.put.new.self c.put.result refl
    (subst (λ (k : Key). NoneHas k before) key (c.in_default.ensures.none refl)) c.requires.fits c.put.ensures.ok
