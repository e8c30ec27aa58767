use Rattle.dr_ask.specs.Asked.{asked}
use Rattle.dr_scan.proofs.AskedTogether.{apart-there}
use Rattle.dr_scan.proofs.holding.lie_apart.Goals as goal

pub returns-in-Some : goal.returns-in-Some
returns-in-Some c = λ told. apart-there (asked c.args.query.now) c.in-Some.view.now c.args.rows.now c.in-Some.ensures (c.is_apart.ensures told)
