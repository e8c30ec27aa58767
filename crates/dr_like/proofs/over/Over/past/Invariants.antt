use Rattle.std.proofs.Common.{◌≡◌, drop, length}
use denote.Shadow.{shadow}
use denote.Text.{Utf8}
use Rattle.std.specs.Str.{chars}
use Rattle.dr_like.proofs.over.Over.past.Given as goal

abbrev pub invariant-loop-more : goal.invariant-loop-more
invariant-loop-more l = record {
  same : l.over.letter ≡ l.self.letter;
  rest : drop (length (chars l.left)) (chars l.over.ahead.now) ≡ drop (length (chars l.fn.front)) (chars l.self.ahead.now);
  left_utf8 : shadow (Utf8 l.left);
}

abbrev pub decreases-loop-more : goal.decreases-loop-more
decreases-loop-more l = length (chars l.left)
