use Rattle.dr_ask.specs.Asked.{asked}
use Rattle.dr_finish.proofs.Printing.{printable-given}
use Rattle.dr_finish.proofs.finishing.finish.Goals as goal

pub returns-clause-printable : goal.returns-clause-printable
returns-clause-printable c =
    printable-given (asked c.args.query.now) c.args.span c.args.partial c.in_ok-given.given.items c.requires.instants c.requires.intervals c.requires.partial c.in_ok-given.ensures
