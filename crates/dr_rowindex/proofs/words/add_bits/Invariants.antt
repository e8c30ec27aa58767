use Rattle.std.specs.Int.RustNames.{bit_or}
use Rattle.dr_rowindex.proofs.WordLemmas.{PairedTo}
use Rattle.dr_rowindex.proofs.words.add_bits.Given as goal

abbrev pub invariant-loop-k : goal.invariant-loop-k
invariant-loop-k l = PairedTo l.k (λ a b. bit_or a b) l.others l.initial.words l.words
