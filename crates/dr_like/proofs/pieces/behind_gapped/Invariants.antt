use Rattle.std.proofs.Common.{◌∷◌, drop, length, IfSome}
use denote.Shadow.{shadow}
use denote.Text.{Utf8}
use Rattle.std.specs.Str.{chars}
use Rattle.dr_like.specs.Over.{IsOver}
use Rattle.dr_like.specs.Pieces.{IsSameSearch}
use Rattle.dr_like.proofs.pieces.behind_gapped.Given as goal

abbrev pub invariant-loop-front : goal.invariant-loop-front
invariant-loop-front l = record {
  search : IsSameSearch (l.letter ∷ chars l.others) (chars l.text) (l.letter ∷ chars l.others) (chars l.rest);
  over : IfSome l.missed (λ o. IsOver (chars l.others) (drop 1 (chars l.rest)) o.letter (chars o.ahead.now));
  rest_utf8 : shadow (Utf8 l.rest);
}

abbrev pub decreases-loop-front : goal.decreases-loop-front
decreases-loop-front l = length (chars l.rest)
