use Rattle.std.proofs.Common.{◌≤◌, ◌-◌, length, take}
use Rattle.dr_letters.specs.Codes.{Keeps}
use Rattle.dr_letters.specs.Pieces.{asks_each}
use Rattle.dr_letters.proofs.letter_rows.LetterRows.keep_first.Given as goal

abbrev pub invariant-loop-k : goal.invariant-loop-k
invariant-loop-k l = record {
  within : l.k ≤ length l.letters;
  kept : Keeps (asks_each l.spare (take l.k l.letters)) l.self.0 l.fn.set l.set;
}

abbrev pub decreases-loop-k : goal.decreases-loop-k
decreases-loop-k l = length l.letters - l.k
