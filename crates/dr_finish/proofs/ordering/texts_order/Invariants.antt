use Rattle.std.proofs.Common.{◌≡◌, ◌+◌, ℕ}
use Rattle.std.specs.Cmp.Lexicographic.{slice_cmp}
use Rattle.std.specs.Ordering.{nat_cmp}
use Rattle.dr_outputs.specs.Numbered.{texts_by}
use Rattle.dr_finish.specs.RowOrder.{numbers_from}
use Rattle.dr_finish.proofs.ordering.texts_order.Given as goal

abbrev pub invariant-loop-number : goal.invariant-loop-number
invariant-loop-number l = (rest : ℕ) → l.number + rest ≡ l.count
    → slice_cmp (slice_cmp nat_cmp) (texts_by (numbers_from l.count 0) l.texts) (texts_by (numbers_from l.count 0) l.others)
    ≡ slice_cmp (slice_cmp nat_cmp) (texts_by (numbers_from rest l.number) l.texts) (texts_by (numbers_from rest l.number) l.others)
