use Rattle.std.proofs.Common.{◌≡◌, ◌<◌, ℕ, Bool, true, Some, length, get_or}
use Rattle.std.specs.List.{All}
use Rattle.dr_letters.specs.declared.text_letter.TextLetter.{TextLetter}
use Rattle.dr_letters.specs.Ranks.{AreRanked, rank_of}
use Rattle.dr_letters.proofs.ranks.ranked.Given as goal

abbrev pub invariant-loop-letter : goal.invariant-loop-letter
invariant-loop-letter l = record {
  own : AreRanked l.of_codes l.codes.items;
  count : length l.of_letters.items ≡ l.letter-index;
  each : (k r : ℕ) (x : TextLetter) → k < l.letter-index → rank_of l.of_codes (get_or l.letters k x).code ≡ Some (get_or l.of_letters.items k r);
  only : (test : ℕ → Bool) (n r : ℕ) → All (λ x. test x.code ≡ true) l.letters → rank_of l.of_codes n ≡ Some r → test n ≡ true;
}
