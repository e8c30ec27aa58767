use Rattle.std.proofs.Common.{◌∙◌}
use Rattle.dr_image.proofs.PartLemmas.{part_of_at}
use Rattle.dr_image.proofs.part.part_at.Goals as goal

pub returns-clause-seen : goal.returns-clause-seen
returns-clause-seen c = c.part_within.ensures.seen ∙ part_of_at c.args.rows c.args.at _ _ c.args.bytes.now c.word32-values.ensures c.word32-texts.ensures
