use Rattle.std.proofs.Common.{◌≡◌, length}
use denote.Shadow.{shadow}
use denote.Text.{Utf8}
use Rattle.std.specs.Str.{chars}
use Rattle.dr_like.specs.Letters.{Lacks}
use Rattle.dr_like.specs.Like.{fits, behind_some_run}
use Rattle.dr_like.proofs.like.fits_end.Given as goal

abbrev pub invariant-loop-more : goal.invariant-loop-more
invariant-loop-more l = record {
  same : behind_some_run (fits (chars l.left)) (chars l.rest) ≡ behind_some_run (fits (chars l.pattern)) (chars l.text);
  lacks : Lacks 37 (chars l.left);
  left_utf8 : shadow (Utf8 l.left);
  rest_utf8 : shadow (Utf8 l.rest);
}

abbrev pub decreases-loop-more : goal.decreases-loop-more
decreases-loop-more l = length (chars l.left)
