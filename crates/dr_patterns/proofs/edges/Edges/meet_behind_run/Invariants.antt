use Rattle.std.proofs.Common.{◌≡◌, length}
use denote.Shadow.{shadow}
use denote.Text.{Utf8}
use Rattle.dr_patterns.specs.Sides.{some_within}
use Rattle.dr_patterns.proofs.edges.Edges.meet_behind_run.Given as goal

abbrev pub invariant-loop-letters : goal.invariant-loop-letters
invariant-loop-letters l = record {
  same : some_within l.self.0 l.self.1 l.letters.rest.now ≡ some_within l.self.0 l.self.1 l.text;
  rest_utf8 : shadow (Utf8 l.letters.rest.now);
}

abbrev pub decreases-loop-letters : goal.decreases-loop-letters
decreases-loop-letters l = length l.letters.rest.now
