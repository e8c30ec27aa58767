use Rattle.std.proofs.Common.{refl}
use Rattle.std.specs.Fmt.{digits}
use Rattle.dr_requests.proofs.command_error.refused_line.Goals as goal

pub returns-in-LineTooLong : goal.returns-in-LineTooLong
unfolding digits
returns-in-LineTooLong c = rw c.in-LineTooLong.is refl

pub returns-in-ReadFault : goal.returns-in-ReadFault
unfolding digits
returns-in-ReadFault c = rw c.in-ReadFault.is refl

pub returns-in-WriteFault : goal.returns-in-WriteFault
unfolding digits
returns-in-WriteFault c = rw c.in-WriteFault.is refl
