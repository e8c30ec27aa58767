use Rattle.std.proofs.Common.{◌≡◌, List, ℕ, true, take}
use Rattle.std.specs.Str.{chars}
use Rattle.dr_letters.specs.Pieces.{asks_each}
use Rattle.dr_letters.proofs.letter_rows.stand_in.Given as goal

abbrev pub invariant-loop-k : goal.invariant-loop-k
invariant-loop-k l = (t : List ℕ) → l.own ≡ chars t → asks_each l.spare (take l.k l.letters) t ≡ true
