use Rattle.std.proofs.Common.{get_or}
use Rattle.std.specs.Int.RustNames.{bit_and}
use Rattle.dr_rowindex.proofs.WordLemmas.{DoneTo}
use Rattle.dr_rowindex.proofs.ZeroLemmas.{AreGathered}
use Rattle.dr_rowindex.proofs.words.put_bits_of_five.Given as goal

abbrev pub invariant-loop-k : goal.invariant-loop-k
invariant-loop-k l = record {
  done : DoneTo l.k (λ j. bit_and (bit_and (bit_and (bit_and (get_or l.others j 0) (get_or l.a j 0)) (get_or l.b j 0)) (get_or l.c j 0)) (get_or l.d j 0)) l.initial.words l.words;
  gathered : AreGathered l.k l.left l.words;
}
