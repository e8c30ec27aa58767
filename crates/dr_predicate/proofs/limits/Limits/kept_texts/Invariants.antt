use Rattle.std.proofs.Common.{◌≡◌, ◌||◌, ◌&&◌, ℕ, List, bytes_eq, map, string_bytes, drop}
use Rattle.std.specs.List.{list_any}
use Rattle.dr_predicate.specs.Asked.{lets_through}
use Rattle.dr_predicate.proofs.limits.Limits.kept_texts.Given as goal

abbrev pub invariant-loop-text : goal.invariant-loop-text
invariant-loop-text l =
    (other : List ℕ) → (list_any (bytes_eq other) l.kept || (list_any (bytes_eq other) (map string_bytes (drop l.text-index l.texts)) && lets_through l.self other)) ≡ (list_any (bytes_eq other) (map string_bytes l.texts) && lets_through l.self other)
