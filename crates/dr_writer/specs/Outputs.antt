-- The outputs of a query in the order of their names, and the members that a group has of them. No public contract cites this file.
use Rattle.std.specs.Prelude.{ℕ, ◌+◌, List, [], ◌∷◌, Option, Some, None, option_map, slice_get}
use Rattle.std.specs.Ordering.{nat_cmp}
use Rattle.std.specs.Cmp.Lexicographic.{slice_cmp}
use Rattle.std.specs.BTreeMap.{insert_entry}
use Rattle.serde_json.specs.Data.{Data, number, Members, no_members, member}
use Rattle.serde_json.specs.Find.{of_integer}
use Rattle.dr_ask.specs.Asked.{Asked, dimensions_by}
use Rattle.dr_answers.specs.declared.result_row.ResultRow.{ResultRow}
use Rattle.dr_answers.specs.Answer.{dimension_data, with_dims, with_values}
use Rattle.dr_writer.specs.declared.output.Place.{Place}
use Rattle.dr_writer.specs.declared.output.Place.TheVariants.{Dim, Value}
use Rattle.dr_writer.specs.declared.output.Output.{Output}

abbrev pub dim_at : ℕ → Place
dim_at i = Dim i

abbrev pub value_at : ℕ → Place
value_at i = Value i

-- some names by their order, with others put in at the places from i on
abbrev pub with_places : (ℕ → Place) → ℕ → List (List ℕ × Place) → List (List ℕ) → List (List ℕ × Place)
with_places place i entries [] = entries
with_places place i entries (name ∷ names) = with_places place (i + 1) (insert_entry (slice_cmp nat_cmp) entries name (place i)) names

abbrev pub output_of : List ℕ × Place → Output
output_of e = record { name = e.0; place = e.1 }

-- what a group has at a place
abbrev pub data_at : ResultRow → Place → Option Data
data_at g (Dim i) = option_map dimension_data (slice_get g.dims i)
data_at g (Value i) = option_map (λ v. number (of_integer v)) (slice_get g.values i)

abbrev pub with_member : List ℕ → Option Data → Members → Members
with_member name None members = members
with_member name (Some d) members = member name d members

-- the members of a group, in the order of the outputs
abbrev pub members_at : ResultRow → List Output → Members
members_at g [] = no_members
members_at g (o ∷ os) = with_member o.name (data_at g o.place) (members_at g os)

-- the members of a group, by the definition of an answer
abbrev pub members_of : Asked → ResultRow → Members
members_of q g = with_values (with_dims no_members (dimensions_by q.shape) g.dims) q.aggregations g.values
