use Rattle.std.proofs.Common.{◌≡◌, ◌||◌, ◌&&◌, not, ℕ, List, bytes_eq, map, string_bytes, drop}
use Rattle.std.specs.List.{list_any}
use Rattle.dr_having.proofs.text_conditions.without.Given as goal

abbrev pub invariant-loop-text : goal.invariant-loop-text
invariant-loop-text l =
    (value : List ℕ) → (list_any (bytes_eq value) l.left || (list_any (bytes_eq value) (map string_bytes (drop l.text-index l.text-items)) && not (list_any (bytes_eq value) l.others)))
    ≡ (list_any (bytes_eq value) l.texts && not (list_any (bytes_eq value) l.others))
