use Rattle.std.proofs.Common.{◌≡◌, take}
use Rattle.dr_chunks.proofs.stream.share_events.Given as goal

abbrev pub invariant-loop-event : goal.invariant-loop-event
invariant-loop-event l = l.shares.items ≡ take l.event-index l.events
