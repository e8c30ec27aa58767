use Rattle.std.proofs.Common.{◌≡◌, ◌≤◌, ◌++◌, drop, length}
use Rattle.dr_answers.specs.Selection.{selected}
use Rattle.dr_ask.specs.Asked.{asked}
use Rattle.dr_scan.specs.Chosen.{AreTold}
use Rattle.dr_scan.specs.Window.{after, given}
use Rattle.dr_scan.specs.Written.{segment_tokens}
use Rattle.dr_scan.proofs.segment_writing.write_given.Given as goal

-- with the rows that are left
abbrev pub invariant-loop-i : goal.invariant-loop-i
invariant-loop-i l = record {
  before : l.out.before ≡ l.initial.out.before;
  tokens : l.out.tokens ++ segment_tokens l.scan l.columns l.identifier l.count (given l.window (selected (asked l.query) (drop l.i l.rows)))
      ≡ l.initial.out.tokens ++ segment_tokens l.scan l.columns l.identifier 0 (given l.initial.window (selected (asked l.query) l.rows));
  window : after l.window (length (selected (asked l.query) (drop l.i l.rows))) ≡ after l.initial.window (length (selected (asked l.query) l.rows));
  few : l.count ≤ l.i;
  told : AreTold l.told (asked l.query) l.rows;
}
