use Rattle.dr_segment.proofs.TableLemmas.{image_by}
use Rattle.dr_segment.proofs.encoding.encode_columns.Goals as goal

pub returns : goal.returns
returns c = rw (image_by c.args.columns.now c.requires.rows) c.written.ensures
