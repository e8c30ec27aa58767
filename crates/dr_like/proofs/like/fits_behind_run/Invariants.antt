use Rattle.std.proofs.Common.{◌≡◌, length}
use denote.Shadow.{shadow}
use denote.Text.{Utf8}
use Rattle.std.specs.Str.{chars}
use Rattle.dr_like.specs.Like.{fits, behind_some_run}
use Rattle.dr_like.proofs.like.fits_behind_run.Given as goal

abbrev pub invariant-loop-piece : goal.invariant-loop-piece
invariant-loop-piece l = record {
  same : behind_some_run (fits (chars l.left)) (chars l.rest) ≡ behind_some_run (fits (chars l.pattern)) (chars l.text);
  left_utf8 : shadow (Utf8 l.left);
  rest_utf8 : shadow (Utf8 l.rest);
}

abbrev pub decreases-loop-piece : goal.decreases-loop-piece
decreases-loop-piece l = length (chars l.left)
