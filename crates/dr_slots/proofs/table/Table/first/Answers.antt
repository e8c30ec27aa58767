use Rattle.std.proofs.lemmas.Nat.{and_le_l}
use Rattle.dr_slots.proofs.table.Table.first.Goals as goal

pub returns-clause-small : goal.returns-clause-small
returns-clause-small c = and_le_l c.args.hash c.args.self.now.mask
