use Rattle.std.proofs.Common.{◌≡◌, ◌≤◌}
use Rattle.dr_lines.specs.Failures.{failures_of, reads_of, inner_of}
use Rattle.dr_lines.specs.Lines.{left_to_read, steps_left, CountsReads}
use Rattle.dr_lines.proofs.LineSteps.{IsSoFar}
use Rattle.dr_lines.proofs.line_reader.LineReader.next_line.Given as goal

abbrev pub invariant-parts : goal.invariant-parts
invariant-parts g l = record {
  so_far : IsSoFar (left_to_read l.fn.self (g.R.Read.remaining (inner_of l.fn.reader))) (left_to_read l.self (g.R.Read.remaining (inner_of l.reader))) l.self;
  failures : failures_of l.reader ≡ failures_of l.fn.reader;
  nearer : steps_left l.self ≤ steps_left l.fn.self;
  reads : CountsReads l.fn.self.reads l.self.reads (reads_of l.fn.reader) (reads_of l.reader);
}

abbrev pub decreases-parts : goal.decreases-parts
decreases-parts g l = steps_left l.self
