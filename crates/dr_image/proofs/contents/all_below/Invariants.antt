use Rattle.std.proofs.Common.{◌≡◌, map, drop, nat_lt}
use Rattle.std.specs.List.{list_all}
use Rattle.dr_image.specs.Words.{word}
use Rattle.dr_image.proofs.contents.all_below.Given as goal

abbrev pub invariant-loop-cell : goal.invariant-loop-cell
invariant-loop-cell l = list_all (λ n. nat_lt n l.bound) (map word (drop l.cell-index l.cells)) ≡ list_all (λ n. nat_lt n l.bound) (map word l.cells)
