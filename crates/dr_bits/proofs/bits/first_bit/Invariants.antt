use Rattle.std.proofs.Common.{◌≡◌, ◌≤◌, ◌<◌, ◌-◌, ℕ, false}
use Rattle.dr_bits.specs.Bits.{truth_in}
use Rattle.dr_bits.proofs.bits.first_bit.Given as goal

abbrev pub invariant-loop-k : goal.invariant-loop-k
invariant-loop-k l = record {
  from : l.from ≤ l.k;
  before : (j : ℕ) → l.from ≤ j → j < l.k → j < l.count → truth_in l.words j ≡ false;
}

abbrev pub decreases-loop-k : goal.decreases-loop-k
decreases-loop-k l = l.count - l.k
