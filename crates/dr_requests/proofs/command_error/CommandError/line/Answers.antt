use Rattle.std.proofs.Common.{refl}
use Rattle.std.specs.Fmt.{digits}
use Rattle.dr_requests.proofs.command_error.CommandError.line.Goals as goal

pub returns-in-NoMemory : goal.returns-in-NoMemory
unfolding digits
returns-in-NoMemory c = rw c.in-NoMemory.is refl

pub returns-in-BadCommand : goal.returns-in-BadCommand
unfolding digits
returns-in-BadCommand c = rw c.in-BadCommand.is refl
