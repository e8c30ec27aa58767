use Rattle.dr_ask.specs.Asked.{asked}
use Rattle.dr_scan.proofs.InTurn.{goes-alone}
use Rattle.dr_scan.proofs.lot_writing.write_lot.Goals as goal

pub returns-then-segments-eq1 : goal.returns-then-segments-eq1
returns-then-segments-eq1 c =
    goes-alone (asked c.args.query.now) c.args.scan.now c.args.columns.now c.write_segment.result c.args.out.now c.write_segment.new.out c.args.window.now c.write_segment.new.window c.args.segments.now
    c.index-segments-0.result c.if-segments-eq1.true c.index-segments-0.is c.write_segment.ensures.tokens c.write_segment.ensures.window
