use Rattle.std.proofs.Common.{◌≡◌}
use Rattle.dr_image.specs.Layout.{parts_in, read_table}
use Rattle.dr_image.specs.Opening.{ranks_fit}
use Rattle.dr_image.proofs.RankLemmas.{ranks_from}
use Rattle.dr_image.proofs.ranking.do_ranks_fit.Given as goal

-- the rows that are left decide
abbrev pub invariant-loop-i : goal.invariant-loop-i
invariant-loop-i l = let t = read_table l.layout.bytes.now in ranks_from t.rollup t.times (parts_in l.layout.bytes.now) l.i ≡ ranks_fit t.rollup t.times (parts_in l.layout.bytes.now)
