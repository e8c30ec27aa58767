use Rattle.dr_ask.specs.Asked.{asked}
use Rattle.dr_scan.proofs.AskedTogether.{none-held}
use Rattle.dr_scan.proofs.holding.put_held.Goals as goal

pub returns-then-lie_apart : goal.returns-then-lie_apart
returns-then-lie_apart c = none-held (asked c.args.query.now) c.args.rows.now c.args.lot.now.items (c.lie_apart.ensures c.if-lie_apart.true)
