use Rattle.dr_node.proofs.Keeping.{kept-empty}
use Rattle.dr_node.proofs.kept.Kept.new.Goals as goal

pub invariant_of-result : goal.invariant_of-result
invariant_of-result g c = kept-empty g.B.Books.schema g.B.Books.seats c.args.timeline (g.B.Books.mine c.args.books) (g.B.Books.floor c.args.books) c.requires.timeline c.requires.mine c.requires.floor
