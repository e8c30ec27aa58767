use Rattle.std.proofs.Common.{◌≡◌, ◌||◌, ℕ, List, length}
use Rattle.std.specs.Vec.Iter.{into_iter_items, into_iter_len}
use Rattle.dr_patterns.specs.Divided.{fits_divided}
use Rattle.dr_patterns.specs.Fitting.{fits_some}
use Rattle.dr_patterns.proofs.divided.divided_by_kind.Given as goal

abbrev pub invariant-loop-pattern : goal.invariant-loop-pattern
invariant-loop-pattern l = (into_iter_len l.pattern-iterator ≡ length (into_iter_items l.pattern-iterator))
    × ((text : List ℕ) → (fits_divided l.divided text || fits_some (into_iter_items l.pattern-iterator) text) ≡ fits_some l.fn.patterns.items text)
