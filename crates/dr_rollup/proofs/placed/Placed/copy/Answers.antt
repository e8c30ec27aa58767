use Rattle.dr_rollup.proofs.Standing.{found-kept, found-same}
use Rattle.dr_rollup.proofs.placed.Placed.copy.Goals as goal

pub returns : goal.returns
returns c = λ keys found.
    let old = c.args.self.now in
    found-same keys c.in_ok-copy.field-0 old.far c.in_ok-copy_of.field-0 c.in_ok-copy_of.ensures (found-kept keys old.table c.in_ok-copy.field-0 old.far c.in_ok-copy.ensures found)
