use Rattle.std.proofs.Common.{◌≡◌, map, take}
use Rattle.dr_segment.proofs.ranking.texts_of.Given as goal

abbrev pub invariant-loop-entry : goal.invariant-loop-entry
invariant-loop-entry l = map (λ t. t.now) l.texts.items ≡ map (λ r. r.text.now) (take l.entry-index l.ranked)
