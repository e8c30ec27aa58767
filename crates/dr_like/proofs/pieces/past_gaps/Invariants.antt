use Rattle.std.proofs.Common.{length}
use denote.Shadow.{shadow}
use denote.Text.{Utf8}
use Rattle.std.specs.Str.{chars}
use Rattle.dr_like.specs.Letters.{Lacks}
use Rattle.dr_like.specs.Pieces.{IsSameSearch}
use Rattle.dr_like.proofs.pieces.past_gaps.Given as goal

abbrev pub invariant-loop-letter : goal.invariant-loop-letter
invariant-loop-letter l = record {
  search : IsSameSearch (chars l.piece) (chars l.text) (chars l.left) (chars l.rest);
  lacks : Lacks 37 (chars l.left);
  left_utf8 : shadow (Utf8 l.left);
  rest_utf8 : shadow (Utf8 l.rest);
}

abbrev pub decreases-loop-letter : goal.decreases-loop-letter
decreases-loop-letter l = length (chars l.left)
