use Rattle.std.proofs.Common.{◌≡◌, map, take}
use Rattle.std.specs.List.{range_with_len}
use Rattle.dr_segment.proofs.ranking.placed.Given as goal

abbrev pub invariant-loop-place : goal.invariant-loop-place
invariant-loop-place l = record {
  texts : map (λ r. r.text) l.placed.items ≡ take l.place l.texts;
  places : map (λ r. r.place) l.placed.items ≡ range_with_len 0 l.place;
}
