use Rattle.std.proofs.Common.{ap, eqb, w64}
use Rattle.std.proofs.lemmas.Nat.Bits.{bit_at-trailing_zeros}
use Rattle.dr_bits.proofs.bits.lowest_of.Goals as goal

pub returns-clause-same : goal.returns-clause-same
returns-clause-same c = ap (λ n. eqb n 1) (bit_at-trailing_zeros w64 c.args.word c.requires c.ranges.word.fits).1

pub returns-clause-before : goal.returns-clause-before
returns-clause-before c k lt = ap (λ n. eqb n 1) ((bit_at-trailing_zeros w64 c.args.word c.requires c.ranges.word.fits).2 k lt)
