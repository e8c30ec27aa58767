use Rattle.std.proofs.Common.{subst, OnOk, ◌∷◌, []}
use Rattle.dr_ask.specs.Once.{asked_once}
use Rattle.dr_partial.specs.Grouped.{AddsAll}
use Rattle.dr_partial.proofs.rows.add_row.Goals as goal

pub returns : goal.returns
returns c = subst (λ m. OnOk c.add_parts.result (AddsAll (asked_once c.args.query.now) c.args.groups.now (record { key = c.args.row.now.key; metrics = m } ∷ []) c.add_parts.new.groups)) c.as_slice.ensures c.add_parts.ensures
