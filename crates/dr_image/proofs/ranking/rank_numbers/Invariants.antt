use Rattle.std.proofs.Common.{◌≡◌, drop}
use Rattle.std.specs.Ordering.{nat_cmp}
use Rattle.std.specs.Cmp.Lexicographic.{slice_cmp}
use Rattle.dr_image.specs.Layout.{parts_in}
use Rattle.dr_image.specs.Opening.{numbers_at}
use Rattle.dr_image.proofs.ranking.rank_numbers.Given as goal

-- the dimensions that are left decide
abbrev pub invariant-loop-d : goal.invariant-loop-d
invariant-loop-d l = slice_cmp nat_cmp (numbers_at (drop l.d (parts_in l.layout.bytes.now)) l.i) (numbers_at (drop l.d (parts_in l.layout.bytes.now)) l.j) ≡ slice_cmp nat_cmp (numbers_at (parts_in l.layout.bytes.now) l.i) (numbers_at (parts_in l.layout.bytes.now) l.j)
