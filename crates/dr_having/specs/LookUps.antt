-- What many conditions on the value of one output come down to: whether it is among numbers, or among texts.
use Rattle.std.specs.Prelude.{ℕ, ℤ, Bool, List, bytes_eq}
use Rattle.std.specs.List.{list_any}
use Rattle.dr_having.specs.declared.number_look_up.NumberLookUp.{NumberLookUp}
use Rattle.dr_having.specs.declared.text_look_up.TextLookUp.{TextLookUp}
use Rattle.dr_having.specs.Steps.{is_among}
use Rattle.dr_outputs.specs.Numbered.{number_at, text_at}

-- the value of the aggregation is one of the numbers
abbrev pub is_among_at : List ℤ → NumberLookUp → Bool
is_among_at values l = is_among l.steps (number_at l.place values)

-- the value of the dimension is one of the texts
abbrev pub is_found : List (List ℕ) → TextLookUp → Bool
is_found dims l = list_any (bytes_eq (text_at l.place dims)) l.texts
