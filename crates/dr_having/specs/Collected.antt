-- The conditions on each output, collected before they come down to one. No public contract cites this file.
use Rattle.std.specs.Prelude.{ℕ, ℤ, Bool, true, not, ◌&&◌, List, Option, Some, None, bytes_eq}
use Rattle.std.specs.List.{list_any, list_all}
use Rattle.dr_having.specs.declared.number_conditions.NumberConditions.{NumberConditions}
use Rattle.dr_having.specs.declared.output_conditions.OutputConditions.{OutputConditions}
use Rattle.dr_having.specs.declared.text_conditions.TextConditions.{TextConditions}
use Rattle.dr_having.specs.JoinedSteps.{are_among}
use Rattle.dr_outputs.specs.Numbered.{number_at, text_at}

-- all conditions on an aggregation let its value through
abbrev pub are_numbers : List ℤ → NumberConditions → Bool
are_numbers values c = are_among c.sets.items (number_at c.place values)

-- one of some texts, where there are such
abbrev pub is_one_of : Option (List (List ℕ)) → List ℕ → Bool
is_one_of None text = true
is_one_of (Some texts) text = list_any (bytes_eq text) texts

abbrev pub is_text : TextConditions → List ℕ → Bool
is_text c text = is_one_of c.among text && not (list_any (bytes_eq text) c.denied)

-- all conditions on a dimension let its value through
abbrev pub are_texts : List (List ℕ) → TextConditions → Bool
are_texts dims c = is_text c (text_at c.place dims)

abbrev pub all_numbers : List ℤ → List NumberConditions → Bool
all_numbers values numbers = list_all (are_numbers values) numbers

abbrev pub all_texts : List (List ℕ) → List TextConditions → Bool
all_texts dims texts = list_all (are_texts dims) texts

abbrev pub conditions_meet : List (List ℕ) → List ℤ → OutputConditions → Bool
conditions_meet dims values o = all_numbers values o.numbers.items && all_texts dims o.texts.items
