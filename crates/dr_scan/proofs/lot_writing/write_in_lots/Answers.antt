use Rattle.std.proofs.Common.{◌∙◌, sym, subst, arith}
use Rattle.std.proofs.lemmas.List.{take_all}
use Rattle.dr_ask.specs.Asked.{asked}
use Rattle.dr_scan.specs.declared.window.Window.{Window}
use Rattle.dr_scan.specs.Turns.{GoesOn}
use Rattle.dr_scan.proofs.InTurn.{goes-away, goes-to, goes-whole, turned}
use Rattle.dr_scan.proofs.lot_writing.write_in_lots.Goals as goal

pub returns-then-is_over : goal.returns-then-is_over
returns-then-is_over c =
    let q = asked c.args.query.now in
    let over = turned _ (sym c.is_over.ensures ∙ c.if-is_over.true) in
    let start : Window = record { skip = c.args.scan.now.offset; left = c.args.scan.now.limit } in
    goes-whole q c.args.scan.now c.args.columns.now c.args.out.now c.loop-from.out start c.loop-from.window c.args.segments.now
    (goes-away q c.args.scan.now c.args.columns.now c.args.out.now c.loop-from.out start c.loop-from.window c.args.segments.now c.loop-from.from over c.loop-from.invariant.1)

pub loop-from-preserved : goal.loop-from-preserved
loop-from-preserved c = (
  c.lot_end-to.ensures.within,
  goes-to (asked c.args.query.now) c.args.scan.now c.args.columns.now c.args.out.now c.loop-from.out c.write_lot.new.out (record { skip = c.args.scan.now.offset; left = c.args.scan.now.limit }) c.loop-from.window c.write_lot.new.window
      c.args.segments.now c.loop-from.from c.lot_end-to.result (omega (arith, c.lot_end-to.ensures.more)) c.loop-from.invariant.1 c.in_ok-write_lot.ensures,
)

pub returns : goal.returns
returns c =
    let q = asked c.args.query.now in
    let start : Window = record { skip = c.args.scan.now.offset; left = c.args.scan.now.limit } in
    goes-whole q c.args.scan.now c.args.columns.now c.args.out.now c.loop-from.out start c.loop-from.window c.args.segments.now
    (subst (GoesOn q c.args.scan.now c.args.columns.now c.args.out.now c.loop-from.out start c.loop-from.window) (take_all c.loop-from.from c.args.segments.now c.loop-from-test.false) c.loop-from.invariant.1)
