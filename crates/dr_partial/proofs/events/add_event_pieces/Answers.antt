use Rattle.std.proofs.Common.{◌∙◌, map, ap, subst}
use Rattle.std.specs.List.{flat_map}
use Rattle.std.proofs.lemmas.List.{map-append}
use Rattle.std.proofs.lemmas.Grind.{flat_map-append}
use Rattle.dr_schema.specs.Fits.{FitsSchema}
use Rattle.dr_rollup.specs.Unrolled.{unrolled}
use Rattle.dr_ask.specs.Once.{asked_once}
use Rattle.dr_partial.specs.Grouped.{AddsAll}
use Rattle.dr_partial.proofs.Pieces.{no-rows, next, only-piece, in-piece}
use Rattle.dr_partial.proofs.events.add_event_pieces.Goals as goal

pub loop-piece-init : goal.loop-piece-init
loop-piece-init c = no-rows (asked_once c.args.query.now) c.args.groups.now c.requires.sound

pub add_events-requires-clause-fit : goal.add_events-requires-clause-fit
add_events-requires-clause-fit c =
    in-piece (λ p. p.now) (FitsSchema c.args.schema.now) c.args.pieces.now c.loop-piece.piece-index c.piece-item.result c.loop-piece-test.true c.piece-item.is c.requires.fit

pub loop-piece-preserved : goal.loop-piece-preserved
loop-piece-preserved c =
    let q = asked_once c.args.query.now in
    let u = unrolled c.args.schema.now in
    let after = c.add_events.new.groups in
    next q (λ l. map u (flat_map (λ p. p.now) l)) (λ a b. ap (map u) (flat_map-append (λ p. p.now) a b) ∙ map-append u (flat_map (λ p. p.now) a) (flat_map (λ p. p.now) b))
    c.args.groups.now c.loop-piece.groups after
    c.args.pieces.now c.loop-piece.piece-index c.piece-item.result c.loop-piece-test.true c.piece-item.is c.loop-piece.invariant
    (subst (λ l. AddsAll q c.loop-piece.groups (map u l) after) (only-piece (λ p. p.now) c.piece-item.result) c.in_ok-add_events.ensures)
