use Rattle.std.proofs.Common.{◌≡◌, ◌||◌, ◌&&◌, ℕ, List, bytes_eq, map, string_bytes, drop}
use Rattle.std.specs.List.{list_any}
use Rattle.dr_dict.proofs.adding.add_held.Given as goal

abbrev pub invariant-loop-text : goal.invariant-loop-text
invariant-loop-text l =
    (other : List ℕ) → (list_any (bytes_eq other) l.both || (list_any (bytes_eq other) l.held && list_any (bytes_eq other) (map string_bytes (drop l.text-index l.texts))))
    ≡ (list_any (bytes_eq other) l.initial.both || (list_any (bytes_eq other) l.held && list_any (bytes_eq other) (map string_bytes l.texts)))
