use Rattle.std.proofs.Common.{◌≡◌, ◌≤◌, bytes_eq, ℕ, List, drop, length}
use Rattle.std.specs.List.{position_from}
use Rattle.std.specs.BTreeMap.{get_by}
use Rattle.std.specs.Ordering.{nat_cmp}
use Rattle.std.specs.Cmp.Lexicographic.{slice_cmp}
use Rattle.dr_outputs.proofs.output_names.first_places.Given as goal

abbrev pub invariant-loop-place : goal.invariant-loop-place
invariant-loop-place l = (l.place ≤ length l.names)
    × ((name : List ℕ) → get_by (λ k. slice_cmp nat_cmp name k.now) l.places ≡ position_from (bytes_eq name) l.place (drop l.place l.names))

abbrev pub decreases-loop-place : goal.decreases-loop-place
decreases-loop-place l = l.place
