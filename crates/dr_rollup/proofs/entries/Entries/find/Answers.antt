use Rattle.std.proofs.Common.{subst, IfSome}
use Rattle.std.proofs.lemmas.Option.{IfSome_then}
use Rattle.dr_base.specs.declared.key.Key.{Key}
use Rattle.dr_rollup.specs.HeldRows.{HeldRows}
use Rattle.dr_rollup.specs.Entries.{HasKeyAt, NoneHas}
use Rattle.dr_rollup.proofs.Standing.{has-key-at, none-has}
use Rattle.dr_rollup.proofs.entries.Entries.find.Goals as goal

pub returns-in-Some-clause-found : goal.returns-in-Some-clause-found
returns-in-Some-clause-found c =
    let k : Key = record { time = c.args.key.now.time; dims = c.args.key.now.dims.now } in
    let s = c.self.inside in
    subst (λ (h : HeldRows). IfSome c.find.result (HasKeyAt k h.rows)) c.self.view_is (IfSome_then c.find.result c.find.ensures.found (λ i at. has-key-at k s.rows.rows i at))

pub returns-in-Some-clause-none : goal.returns-in-Some-clause-none
returns-in-Some-clause-none c = λ none combines.
    let k : Key = record { time = c.args.key.now.time; dims = c.args.key.now.dims.now } in
    subst (λ (h : HeldRows). NoneHas k h.rows) c.self.view_is (none-has k c.self.inside.rows.rows (c.find.ensures.none none))
