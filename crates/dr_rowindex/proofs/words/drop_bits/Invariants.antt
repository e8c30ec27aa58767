use Rattle.std.specs.Int.RustNames.{bit_and, bit_xor}
use Rattle.dr_rowindex.proofs.WordLemmas.{PairedTo}
use Rattle.dr_rowindex.proofs.ZeroLemmas.{AreGathered}
use Rattle.dr_rowindex.proofs.words.drop_bits.Given as goal

abbrev pub invariant-loop-k : goal.invariant-loop-k
invariant-loop-k l = record {
  paired : PairedTo l.k (λ a b. bit_xor a (bit_and a b)) l.others l.initial.words l.words;
  gathered : AreGathered l.k l.left l.words;
}
