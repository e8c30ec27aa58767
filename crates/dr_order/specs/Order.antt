-- Which of two groups comes first (Apache Druid documentation, groupBy queries: limitSpec; what breaks ties is this project's
-- own).
use Rattle.std.specs.Prelude.{ℕ, ℤ, Bool, true, false, List, [], ◌∷◌}
use Rattle.std.specs.Ordering.{nat_cmp, int_cmp, ordering_then}
use Rattle.std.specs.Cmp.Lexicographic.{slice_cmp}
use Rattle.std.specs.declared.cmp.Ordering.{Ordering}
use Rattle.std.specs.declared.cmp.Ordering.TheVariants.{Less, Equal, Greater}
use Rattle.dr_outputs.specs.Numbered.{number_at, text_at}
use Rattle.dr_order.specs.declared.output.Output.{Output}
use Rattle.dr_order.specs.declared.output.Output.TheVariants.{Dimension, Aggregation}
use Rattle.dr_order.specs.declared.order_column.OrderColumn.{OrderColumn}

-- texts by their UTF-8 bytes, numbers by their value
abbrev pub output_cmp : Output → List (List ℕ) → List ℤ → List (List ℕ) → List ℤ → Ordering
output_cmp (Dimension place) dims values other_dims other_values = slice_cmp nat_cmp (text_at place dims) (text_at place other_dims)
output_cmp (Aggregation place) dims values other_dims other_values = int_cmp (number_at place values) (number_at place other_values)

abbrev pub turned : Ordering → Ordering
turned Less = Greater
turned Equal = Equal
turned Greater = Less

abbrev pub directed : Bool → Ordering → Ordering
directed false order = order
directed true order = turned order

abbrev pub column_cmp : OrderColumn → List (List ℕ) → List ℤ → List (List ℕ) → List ℤ → Ordering
column_cmp c dims values other_dims other_values = directed c.descending (output_cmp c.output dims values other_dims other_values)

-- by the first column in which they differ
abbrev pub columns_cmp : List OrderColumn → List (List ℕ) → List ℤ → List (List ℕ) → List ℤ → Ordering
columns_cmp [] dims values other_dims other_values = Equal
columns_cmp (c ∷ cs) dims values other_dims other_values =
    ordering_then (column_cmp c dims values other_dims other_values) (columns_cmp cs dims values other_dims other_values)

-- by the columns, and then by the dimensions ascending, each by its UTF-8 bytes
abbrev pub groups_cmp : List OrderColumn → List (List ℕ) → List ℤ → List (List ℕ) → List ℤ → Ordering
groups_cmp cs dims values other_dims other_values =
    ordering_then (columns_cmp cs dims values other_dims other_values) (slice_cmp (slice_cmp nat_cmp) dims other_dims)
