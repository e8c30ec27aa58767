use Rattle.dr_scatter.proofs.Begins.{begin-split, begin-within}
use Rattle.dr_scatter.proofs.sharing.begin_of.Goals as goal

pub returns-clause-value : goal.returns-clause-value
returns-clause-value c = begin-split c.args.k c.args.count c.args.workers c.requires.some

pub returns-clause-within : goal.returns-clause-within
returns-clause-within c = rw (begin-split c.args.k c.args.count c.args.workers c.requires.some) (begin-within c.args.k c.args.count c.args.workers c.requires.k)
