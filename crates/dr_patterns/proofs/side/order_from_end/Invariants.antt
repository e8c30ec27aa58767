use Rattle.std.proofs.Common.{◌≡◌, length, reverse}
use denote.Shadow.{shadow}
use denote.Text.{Utf8}
use Rattle.std.specs.Str.{chars}
use Rattle.std.specs.Ordering.{nat_cmp}
use Rattle.std.specs.Cmp.Lexicographic.{slice_cmp}
use Rattle.dr_patterns.proofs.side.order_from_end.Given as goal

abbrev pub invariant-loop-last : goal.invariant-loop-last
invariant-loop-last l = record {
  same : slice_cmp nat_cmp (reverse (chars l.left.rest.now)) (reverse (chars l.right.rest.now)) ≡ slice_cmp nat_cmp (reverse (chars l.text)) (reverse (chars l.other));
  left_utf8 : shadow (Utf8 l.left.rest.now);
  right_utf8 : shadow (Utf8 l.right.rest.now);
}

abbrev pub decreases-loop-last : goal.decreases-loop-last
decreases-loop-last l = length l.left.rest.now
