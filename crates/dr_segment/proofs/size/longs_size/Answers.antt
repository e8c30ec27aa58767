use Rattle.std.proofs.Common.{arith}
use Rattle.dr_image.proofs.SpellingLemmas.{length-spelled_longs}
use Rattle.dr_segment.proofs.size.longs_size.Goals as goal

pub returns : goal.returns
returns c = omega (arith, length-spelled_longs c.args.longs.now, c.saturating_mul.ensures)
