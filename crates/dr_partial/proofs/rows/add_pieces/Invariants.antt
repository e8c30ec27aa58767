use Rattle.std.proofs.Common.{take}
use Rattle.std.specs.List.{flat_map}
use Rattle.dr_ask.specs.Once.{asked_once}
use Rattle.dr_partial.specs.Grouped.{AddsAll}
use Rattle.dr_partial.proofs.rows.add_pieces.Given as goal

abbrev pub invariant-loop-piece : goal.invariant-loop-piece
invariant-loop-piece l = AddsAll (asked_once l.query) l.initial.groups (flat_map (λ p. p.now) (take l.piece-index l.pieces)) l.groups
