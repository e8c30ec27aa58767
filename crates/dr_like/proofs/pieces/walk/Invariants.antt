use Rattle.std.proofs.Common.{◌≡◌, ◌+◌, ◌++◌, ℕ, List, length}
use denote.Shadow.{shadow}
use denote.Text.{Utf8}
use Rattle.std.specs.Str.{chars}
use Rattle.dr_like.specs.Letters.{Lacks}
use Rattle.dr_like.specs.Left.{IsBehind}
use Rattle.dr_like.proofs.Overs.{IsGone}
use Rattle.dr_like.proofs.pieces.walk.Given as goal

abbrev pub invariant-loop-letter : goal.invariant-loop-letter
invariant-loop-letter l = record {
  behind : (more : List ℕ) → IsBehind (chars l.piece ++ more) (chars l.text) (chars l.left ++ more) (chars l.rest);
  lacks : Lacks 37 (chars l.left);
  as_far : length (chars l.piece) + length (chars l.rest) ≡ length (chars l.text) + length (chars l.left);
  gone : IsGone (chars l.piece) (chars l.text) (chars l.left) (chars l.rest);
  left_utf8 : shadow (Utf8 l.left);
  rest_utf8 : shadow (Utf8 l.rest);
}

abbrev pub decreases-loop-letter : goal.decreases-loop-letter
decreases-loop-letter l = length (chars l.left)
