use Rattle.std.specs.Io.KnownBytes.{Keeps}
use Rattle.dr_lines.proofs.counted.flush_through.Given as goal

abbrev pub invariant-tries : goal.invariant-tries
invariant-tries g l = Keeps (g.W.Write.contents l.fn.writer) (g.W.Write.contents l.writer)
