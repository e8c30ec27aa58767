use Rattle.std.proofs.Common.{◌≡◌, ◌++◌, true, ℕ, List, length, string_bytes}
use denote.Text.{Utf8}
use denote.Shadow.{shadow}
use Rattle.std.specs.Str.{chars}
use Rattle.dr_like.specs.Like.{fits}
use Rattle.dr_patterns.specs.Runs.{runs_are_apart}
use Rattle.dr_patterns.proofs.RunLemmas.{ends_with_run}
use Rattle.dr_patterns.proofs.runs.runs_joined.Given as goal

abbrev pub invariant-loop-letter : goal.invariant-loop-letter
invariant-loop-letter l = record {
  same : (cs : List ℕ) → fits (chars (string_bytes l.joined) ++ chars l.left) cs ≡ fits (chars l.pattern) cs;
  apart : runs_are_apart (chars (string_bytes l.joined)) ≡ true;
  run : ends_with_run (chars (string_bytes l.joined)) ≡ l.in_run;
  left_utf8 : shadow (Utf8 l.left);
}

abbrev pub decreases-loop-letter : goal.decreases-loop-letter
decreases-loop-letter l = length (chars l.left)
