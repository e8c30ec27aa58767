use Rattle.std.proofs.Common.{◌≡◌, ◌≤◌, length, drop}
use Rattle.dr_like.specs.Like.{fits, behind_some_run}
use Rattle.dr_places.proofs.by_letters.fits_behind_run.Given as goal

abbrev pub invariant-loop-piece : goal.invariant-loop-piece
invariant-loop-piece l = record {
  same : behind_some_run (fits l.left) (drop l.at l.text) ≡ behind_some_run (fits l.pattern) (drop l.from l.text);
  within : l.at ≤ length l.text;
}

abbrev pub decreases-loop-piece : goal.decreases-loop-piece
decreases-loop-piece l = length l.left
