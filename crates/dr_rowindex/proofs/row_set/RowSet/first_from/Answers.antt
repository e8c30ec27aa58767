use Rattle.std.proofs.Common.{◌∙◌, ap}
use Rattle.dr_rowindex.specs.Truths.{truths}
use Rattle.dr_rowindex.proofs.TruthLemmas.{first-row}
use Rattle.dr_rowindex.proofs.row_set.RowSet.first_from.Goals as goal

pub returns : goal.returns
returns c =
    let count = c.self.inside.count in
    first-row c.as_slice.result.now count c.args.row c.args.self.now c.first_bit.result (ap (λ words. truths words count) c.as_slice.ensures.value ∙ c.self.view_is) c.first_bit.ensures
