use Rattle.std.proofs.Common.{◌≡◌, ◌&&◌, ℕ, ℤ, List, drop}
use Rattle.dr_filter.specs.Parts.{all_told, parts_match}
use Rattle.dr_filter.proofs.asking.+asking.Given as goal

abbrev pub invariant-add_all-loop-filter : goal.invariant-add_all-loop-filter
invariant-add_all-loop-filter l =
    (time : ℤ) (dims : List (List ℕ)) → (parts_match time dims l.parts && all_told time dims l.holds (drop l.filter-index l.filters)) ≡ (parts_match time dims l.initial.parts && all_told time dims l.holds l.filters)
