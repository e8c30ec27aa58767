-- Dictionaries of the values of a dimension (Apache Druid documentation, segments: dictionary encoding).
use Rattle.std.specs.Prelude.{ℕ, List, [], ◌∷◌, ◌++◌, Option, bytes_eq, if◌then◌else◌}
use Rattle.std.specs.List.{position, list_any}

-- distinct texts in the order in which they first came, and how many there may be
pub record Dictionary : Type 0 where
  pub limit : ℕ
  pub texts : List (List ℕ)

-- the number of a text is its place, from 0
abbrev pub number_in : List (List ℕ) → List ℕ → Option ℕ
number_in texts text = position (bytes_eq text) texts

-- a text that is there changes nothing, and a new one goes last
abbrev pub with_text : List (List ℕ) → List ℕ → List (List ℕ)
with_text texts text = if list_any (bytes_eq text) texts then texts else texts ++ text ∷ []

-- a dictionary with other texts
abbrev pub with_texts : Dictionary → List (List ℕ) → Dictionary
with_texts dict texts = record { limit = dict.limit; texts = texts }
