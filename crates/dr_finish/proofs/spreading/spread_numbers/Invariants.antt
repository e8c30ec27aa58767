use Rattle.std.proofs.Common.{◌≡◌, take}
use Rattle.dr_outputs.specs.Numbered.{numbers_by}
use Rattle.dr_finish.proofs.spreading.spread_numbers.Given as goal

abbrev pub invariant-loop-number : goal.invariant-loop-number
invariant-loop-number l = l.spread.items ≡ numbers_by (take l.number-index l.numbers) l.all
