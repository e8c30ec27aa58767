use Rattle.std.proofs.Common.{◌≡◌, ◌<◌, ◌&&◌, ℕ, not, false, length, drop, get_or}
use Rattle.dr_filter.specs.Condition.{conditions_in, every_matches, some_matches}
use Rattle.dr_columns.specs.Rows.{key_at}
use Rattle.dr_columns.proofs.NarrowLemmas.{ToNarrow}
use Rattle.dr_columns.proofs.filtering.+narrowing.Given as goal

abbrev pub invariant-narrow_every-loop-filter : goal.invariant-narrow_every-loop-filter
invariant-narrow_every-loop-filter l =
    ToNarrow (λ i. every_matches (key_at l.view i).time (key_at l.view i).dims (conditions_in l.filters)) (λ i. every_matches (key_at l.view i).time (key_at l.view i).dims (conditions_in (drop l.filter-index l.filters))) l.initial.told l.told

abbrev pub invariant-meet_none-loop-filter : goal.invariant-meet_none-loop-filter
invariant-meet_none-loop-filter l =
    (length l.none.items ≡ length l.view.times)
    × ((i : ℕ) → i < length l.view.times → (get_or l.none.items i false && not (some_matches (key_at l.view i).time (key_at l.view i).dims (conditions_in (drop l.filter-index l.filters)))) ≡ not (some_matches (key_at l.view i).time (key_at l.view i).dims (conditions_in l.filters)))
