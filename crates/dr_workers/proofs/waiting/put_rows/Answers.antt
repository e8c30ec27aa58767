use Rattle.std.proofs.Common.{subst}
use Rattle.dr_workers.specs.Gathered.{AreApart}
use Rattle.dr_workers.proofs.Selected.{put-nowhere}
use Rattle.dr_workers.proofs.waiting.put_rows.Goals as goal

pub returns-then-lie_apart : goal.returns-then-lie_apart
returns-then-lie_apart c =
    put-nowhere c.args.query.now c.args.waiting.now.items c.args.fragment.now.rows (subst (AreApart c.args.query.now) c.in_ok-rows.ensures (c.lie_apart.ensures c.if-lie_apart.true))
