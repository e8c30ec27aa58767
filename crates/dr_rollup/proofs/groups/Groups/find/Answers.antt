use Rattle.std.proofs.Common.{List, subst, IfSome}
use Rattle.std.proofs.lemmas.Option.{IfSome_then}
use Rattle.dr_base.specs.declared.key.Key.{Key}
use Rattle.dr_base.specs.declared.row.Row.{Row}
use Rattle.dr_rollup.specs.Entries.{HasKeyAt, NoneHas}
use Rattle.dr_rollup.proofs.Standing.{has-key-at, none-has}
use Rattle.dr_rollup.proofs.groups.Groups.find.Goals as goal

pub returns-clause-found : goal.returns-clause-found
returns-clause-found c =
    let k : Key = record { time = c.args.key.now.time; dims = c.args.key.now.dims.now } in
    let rows = c.self.inside.rows.items in
    subst (λ (l : List Row). IfSome c.find.result (HasKeyAt k l)) c.self.view_is (IfSome_then c.find.result c.find.ensures.found (λ i at. has-key-at k rows i at))

pub returns-clause-none : goal.returns-clause-none
returns-clause-none c = λ none.
    let k : Key = record { time = c.args.key.now.time; dims = c.args.key.now.dims.now } in
    subst (λ (l : List Row). NoneHas k l) c.self.view_is (none-has k c.self.inside.rows.items (c.find.ensures.none none))
