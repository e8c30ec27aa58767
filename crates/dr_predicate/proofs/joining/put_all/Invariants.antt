use Rattle.std.proofs.Common.{◌≡◌, ◌||◌, ℕ, List, bytes_eq, map, string_bytes, drop}
use Rattle.std.specs.List.{list_any}
use Rattle.dr_predicate.specs.Match.{some_within}
use Rattle.dr_predicate.proofs.joining.put_all.Given as goal

abbrev pub invariant-loop-text : goal.invariant-loop-text
invariant-loop-text l =
    (other : List ℕ) → (some_within l.ranges.items other || list_any (bytes_eq other) (map string_bytes (drop l.text-index l.texts))) ≡ (some_within l.initial.ranges.items other || list_any (bytes_eq other) (map string_bytes l.texts))
