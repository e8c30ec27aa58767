use Rattle.std.proofs.Common.{rules, false}
use Rattle.dr_bits.proofs.BitLemmas.{bit-zero}
use Rattle.dr_rowindex.proofs.TruthLemmas.{alike}
use Rattle.dr_rowindex.proofs.row_set.RowSet.none.Goals as goal

pub returns : goal.returns
returns c = alike c.in_ok-words.words.items c.args.count 0 false (c.in_ok-words.ensures.items_if_clones_equal (λ y h. search rules)) (λ k lt. bit-zero k)
