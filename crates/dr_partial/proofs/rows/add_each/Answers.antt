use Rattle.std.proofs.Common.{refl}
use Rattle.dr_ask.specs.Once.{asked_once}
use Rattle.dr_partial.proofs.Pieces.{no-rows, next}
use Rattle.dr_partial.proofs.rows.add_each.Goals as goal

pub loop-row-init : goal.loop-row-init
loop-row-init c = no-rows (asked_once c.args.query.now) c.args.groups.now c.requires.sound

pub loop-row-preserved : goal.loop-row-preserved
loop-row-preserved c =
    next (asked_once c.args.query.now) (λ l. l) (λ a b. refl) c.args.groups.now c.loop-row.groups c.add_row.new.groups
    c.args.rows.now c.loop-row.row-index c.row-item.result c.loop-row-test.true c.row-item.is c.loop-row.invariant c.in_ok-add_row.ensures
