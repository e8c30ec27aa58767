use Rattle.std.proofs.Common.{◌≡◌, drop}
use Rattle.std.specs.Ordering.{nat_cmp}
use Rattle.std.specs.Cmp.Lexicographic.{slice_cmp}
use Rattle.dr_fragment.proofs.row_ref.order_one_by_one.Given as goal

abbrev pub invariant-loop-d : goal.invariant-loop-d
invariant-loop-d l = slice_cmp (slice_cmp nat_cmp) (drop l.d l.a.key.dims) (drop l.d l.b.key.dims) ≡ slice_cmp (slice_cmp nat_cmp) l.a.key.dims l.b.key.dims
