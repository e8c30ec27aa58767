use Rattle.std.proofs.Common.{◌≡◌, take}
use Rattle.dr_finish.specs.RowOrder.{numbers_from}
use Rattle.dr_finish.proofs.spreading.are_all.Given as goal

abbrev pub invariant-loop-place : goal.invariant-loop-place
invariant-loop-place l = take l.place l.numbers ≡ numbers_from l.place 0
