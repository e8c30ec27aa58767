use Rattle.std.proofs.Common.{map, take}
use Rattle.dr_segment.proofs.WritingLemmas.{EndsSoFar}
use Rattle.dr_segment.proofs.writing.put_text_ends.Given as goal

abbrev pub invariant-loop-text : goal.invariant-loop-text
invariant-loop-text l = EndsSoFar l.fn.out.items l.out.items (map (λ t. t.now) (take l.text-index l.texts)) l.end
