use Rattle.std.proofs.Common.{◌≡◌, ◌++◌, length}
use denote.Shadow.{shadow}
use denote.Text.{Utf8}
use Rattle.std.specs.Str.{chars}
use Rattle.dr_places.proofs.letters.put_letters_of.Given as goal

abbrev pub invariant-loop-letter : goal.invariant-loop-letter
invariant-loop-letter l = record {
  whole : l.letters.items ++ chars l.left ≡ chars l.text;
  left_utf8 : shadow (Utf8 l.left);
}

abbrev pub decreases-loop-letter : goal.decreases-loop-letter
decreases-loop-letter l = length (chars l.left)
