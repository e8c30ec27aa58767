use Rattle.std.proofs.Common.{◌≡◌}
use Rattle.dr_lines.specs.Failures.{failures_of, reads_of, inner_of}
use Rattle.dr_lines.specs.Lines.{left_to_read, steps_left, CountsReads}
use Rattle.dr_script.proofs.ScriptSteps.{SoFar}
use Rattle.dr_script.proofs.script.answer_lines.Given as goal

abbrev pub invariant-lines : goal.invariant-lines
invariant-lines g l = record {
  so_far : SoFar (left_to_read l.fn.lines (g.R.Read.remaining (inner_of l.fn.reader))) (left_to_read l.lines (g.R.Read.remaining (inner_of l.reader)))
      l.fn.session l.session (g.W.Write.contents (inner_of l.fn.writer)) (g.W.Write.contents (inner_of l.writer)) l.fn.output l.output l.is_refused;
  failures : failures_of l.writer ≡ failures_of l.fn.writer;
  reads : failures_of l.reader ≡ failures_of l.fn.reader;
  counted : CountsReads l.fn.lines.reads l.lines.reads (reads_of l.fn.reader) (reads_of l.reader);
}

abbrev pub decreases-lines : goal.decreases-lines
decreases-lines g l = steps_left l.lines
