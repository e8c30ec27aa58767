use Rattle.dr_bits.proofs.BitLemmas.{bit-set, bit-other}
use Rattle.dr_bits.proofs.bits.with_bit.Goals as goal

pub returns-clause-same : goal.returns-clause-same
returns-clause-same c = bit-set c.args.word c.args.k c.requires

pub returns-clause-others : goal.returns-clause-others
returns-clause-others c j apart = bit-other c.args.word c.args.k j c.requires apart
