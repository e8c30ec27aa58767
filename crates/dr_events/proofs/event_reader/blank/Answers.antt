use Rattle.std.proofs.Common.{arith}
use Rattle.dr_events.proofs.event_reader.blank.Goals as goal

pub returns : goal.returns
returns c = (c.nulls.invariant.0, omega (arith, c.nulls.invariant.1, c.nulls-test.false, c.len.ensures))
