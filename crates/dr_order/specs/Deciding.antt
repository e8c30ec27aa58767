-- Which columns decide an order: a column whose output stood before decides nothing. No public contract cites this file.
use Rattle.std.specs.Prelude.{◌≡◌, ◌==◌, ℕ, ℤ, Bool, false, List}
use Rattle.dr_order.specs.declared.output.Output.{Output}
use Rattle.dr_order.specs.declared.output.Output.TheVariants.{Dimension, Aggregation}
use Rattle.dr_order.specs.declared.order_column.OrderColumn.{OrderColumn}
use Rattle.dr_order.specs.Order.{columns_cmp}

abbrev pub is_output : Output → Output → Bool
is_output (Dimension place) (Dimension other) = place == other
is_output (Dimension place) (Aggregation other) = false
is_output (Aggregation place) (Dimension other) = false
is_output (Aggregation place) (Aggregation other) = place == other

-- some columns compare every two groups as others do
unfoldable pub Decides : (deciding columns : List OrderColumn) → Type 0
Decides deciding columns = (dims : List (List ℕ)) (values : List ℤ) (other_dims : List (List ℕ)) (other_values : List ℤ)
    → columns_cmp deciding dims values other_dims other_values ≡ columns_cmp columns dims values other_dims other_values
