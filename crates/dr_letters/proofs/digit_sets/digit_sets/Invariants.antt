use Rattle.std.proofs.Common.{◌≡◌, ◌<◌, ℕ, length, take}
use Rattle.std.specs.List.{All}
use Rattle.std.specs.BTreeMap.{BTreeMap}
use Rattle.dr_letters.specs.Ranks.{AreRanksOf, digit}
use Rattle.dr_letters.proofs.RareLemmas.{ArePut}
use Rattle.dr_letters.proofs.digit_sets.digit_sets.Given as goal

abbrev pub invariant-loop-k : goal.invariant-loop-k
invariant-loop-k l = record {
  rows : All (λ s. length s ≡ l.count) l.sets.items;
  digits : (r : ℕ) → r < l.most → digit l.divisor l.base r < length l.sets.items;
  told : (of_codes : BTreeMap ℕ ℕ) → AreRanksOf of_codes l.letters l.ranks → ArePut (take l.k l.letters) of_codes l.divisor l.base l.count l.sets.items;
}
