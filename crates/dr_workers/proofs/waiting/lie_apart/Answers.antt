use Rattle.dr_workers.proofs.Selected.{apart-there}
use Rattle.dr_workers.proofs.waiting.lie_apart.Goals as goal

pub returns-in-Some : goal.returns-in-Some
returns-in-Some c = λ told. apart-there c.args.query.now c.in-Some.view.now c.args.rows.now c.in-Some.ensures (c.is_apart.ensures told)
