use Rattle.std.proofs.Common.{◌≡◌, ◌≤◌, length, drop}
use denote.Shadow.{shadow}
use denote.Text.{Utf8}
use Rattle.std.specs.Str.{chars}
use Rattle.dr_like.specs.Like.{fits, behind_some_run}
use Rattle.dr_places.proofs.by_places.fits_behind_run.Given as goal

abbrev pub invariant-loop-piece : goal.invariant-loop-piece
invariant-loop-piece l = record {
  same : behind_some_run (fits (chars l.left)) (drop l.at l.places) ≡ behind_some_run (fits (chars l.pattern)) (drop l.from l.places);
  within : l.at ≤ length l.places;
  words : length l.words ≡ length l.fn.words;
  comb : length l.comb ≡ length l.fn.comb;
  left_utf8 : shadow (Utf8 l.left);
}

abbrev pub decreases-loop-piece : goal.decreases-loop-piece
decreases-loop-piece l = length (chars l.left)
