-- Where names stand first among the names of outputs. No public contract cites this file.
use Rattle.std.specs.Prelude.{◌≡◌, ℕ, List, Option, bytes_eq}
use Rattle.std.specs.List.{position}

-- each name is found where it stands first
abbrev pub AreFirst : (List ℕ → Option ℕ) → List (List ℕ) → Type 0
AreFirst found names = (name : List ℕ) → found name ≡ position (bytes_eq name) names
