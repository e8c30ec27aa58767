use Rattle.std.proofs.Common.{length, ◌-◌}
use Rattle.dr_letters.specs.Pieces.{asks_each}
use Rattle.dr_letters.proofs.PieceLemmas.{GainsTo}
use Rattle.dr_letters.proofs.letter_rows.LetterRows.insert_each.Given as goal

abbrev pub invariant-loop-next : goal.invariant-loop-next
invariant-loop-next l = GainsTo l.row (asks_each l.spare l.letters) l.self.0 l.set l.fn.found l.found

abbrev pub decreases-loop-next : goal.decreases-loop-next
decreases-loop-next l = length l.set - l.row
