use Rattle.std.proofs.Common.{rules, true, ◌^◌, ◌-◌}
use Rattle.dr_bits.proofs.BitLemmas.{bit-ones}
use Rattle.dr_rowindex.proofs.TruthLemmas.{alike}
use Rattle.dr_rowindex.proofs.row_set.RowSet.all.Goals as goal

pub returns : goal.returns
returns c = alike c.in_ok-words.words.items c.args.count (2 ^ 64 - 1) true (c.in_ok-words.ensures.items_if_clones_equal (λ y h. search rules)) bit-ones
