use Rattle.std.proofs.Common.{◌∙◌, sym, ap, length}
use Rattle.dr_rowindex.proofs.TruthLemmas.{length-truths}
use Rattle.dr_rowindex.proofs.row_set.RowSet.row_count.Goals as goal

pub returns : goal.returns
returns c = sym (sym (ap length c.self.view_is) ∙ length-truths c.self.inside.words.items c.self.inside.count)
