use Rattle.dr_places.proofs.BitLemmas.{word-from}
use Rattle.dr_places.proofs.words.word_from.Goals as goal

pub returns : goal.returns
returns c k lt = word-from c.args.word c.args.next c.args.bits c.ranges.word.fits c.requires k lt
