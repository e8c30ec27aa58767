use Rattle.std.proofs.Common.{length}
use denote.Shadow.{shadow}
use denote.Text.{Utf8}
use Rattle.std.specs.Str.{chars}
use Rattle.dr_letters.proofs.letter_rows.LetterRows.may_end.Given as goal

abbrev pub invariant-loop-more : goal.invariant-loop-more
invariant-loop-more l = shadow (Utf8 l.left)

abbrev pub decreases-loop-more : goal.decreases-loop-more
decreases-loop-more l = length (chars l.left)
