use Rattle.std.proofs.Common.{subst}
use Rattle.std.specs.List.{flat_map}
use Rattle.std.proofs.lemmas.Grind.{flat_map-append}
use Rattle.dr_base.specs.declared.row.Row.{Row}
use Rattle.dr_time.specs.Instant.{IsInstant}
use Rattle.dr_ask.specs.Once.{asked_once}
use Rattle.dr_partial.specs.Grouped.{AddsAll}
use Rattle.dr_partial.proofs.Pieces.{no-rows, next, only-piece, in-piece}
use Rattle.dr_partial.proofs.rows.add_pieces.Goals as goal

pub loop-piece-init : goal.loop-piece-init
loop-piece-init c = no-rows (asked_once c.args.query.now) c.args.groups.now c.requires.sound

pub add_rows-requires-clause-instants : goal.add_rows-requires-clause-instants
add_rows-requires-clause-instants c =
    in-piece (λ p. p.now) (λ (r : Row). IsInstant r.key.time) c.args.pieces.now c.loop-piece.piece-index c.piece-item.result c.loop-piece-test.true c.piece-item.is c.requires.instants

pub loop-piece-preserved : goal.loop-piece-preserved
loop-piece-preserved c =
    let q = asked_once c.args.query.now in
    let after = c.add_rows.new.groups in
    next q (flat_map (λ p. p.now)) (flat_map-append (λ p. p.now)) c.args.groups.now c.loop-piece.groups after
    c.args.pieces.now c.loop-piece.piece-index c.piece-item.result c.loop-piece-test.true c.piece-item.is c.loop-piece.invariant
    (subst (λ l. AddsAll q c.loop-piece.groups l after) (only-piece (λ p. p.now) c.piece-item.result) c.in_ok-add_rows.ensures)
