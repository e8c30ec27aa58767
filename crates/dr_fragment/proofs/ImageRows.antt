-- The rows of an image, and what is read of each.
use Rattle.std.proofs.Common.{◌≡◌, ◌∙◌, refl, ap, ℕ, ℤ, pos, ◌<◌, List, [], length, get_or, Some, slice_get, arith}
use Rattle.std.proofs.lemmas.List.{get_or-map, length-map}
use Rattle.std.proofs.lemmas.List.FromFn.{length-map-range_with_len, get_or-map-range_with_len}
use Rattle.std.proofs.lemmas.Option.{slice_get-get_or}
use Rattle.dr_image.specs.Table.{Table, Column, no_column, row_at, rows_of, value_at}
use Rattle.dr_image.specs.Checked.{column_at}

pub row_time : (t : Table) (i : ℕ) → (row_at t i).key.time ≡ get_or t.times i (pos 0)
unfolding row_at
row_time t i = refl

pub row_dim_count : (t : Table) (i : ℕ) → length (row_at t i).key.dims ≡ length t.dims
unfolding row_at
row_dim_count t i = length-map t.dims (λ (c : Column). value_at c i)

pub row_dim : (t : Table) (i d : ℕ) → d < length t.dims → get_or (row_at t i).key.dims d [] ≡ value_at (column_at t d) i
unfolding row_at
row_dim t i d lt = get_or-map (λ (c : Column). value_at c i) t.dims d no_column [] lt

pub row_metric_count : (t : Table) (i : ℕ) → length (row_at t i).metrics ≡ length t.metrics
unfolding row_at
row_metric_count t i = length-map t.metrics (λ (m : List ℤ). get_or m i (pos 0))

pub row_metric : (t : Table) (i m : ℕ) → m < length t.metrics → get_or (row_at t i).metrics m (pos 0) ≡ get_or (get_or t.metrics m []) i (pos 0)
unfolding row_at
row_metric t i m lt = get_or-map (λ m. get_or m i (pos 0)) t.metrics m [] (pos 0) lt

pub rows_long : (t : Table) → length (rows_of t) ≡ length t.times
rows_long t = length-map-range_with_len (row_at t) 0 (length t.times)

pub row_of_image : (t : Table) (i : ℕ) → i < length t.times → slice_get (rows_of t) i ≡ Some (row_at t i)
row_of_image t i lt =
    let long = rows_long t in
    slice_get-get_or (rows_of t) i (row_at t i) (omega arith) ∙ ap Some (get_or-map-range_with_len (row_at t) 0 (length t.times) i i (row_at t i) lt (omega arith))
