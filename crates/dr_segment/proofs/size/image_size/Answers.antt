use Rattle.std.proofs.Common.{◌≡◌, ◌≤◌, ap, sym, ◌∙◌, length, take, arith, List}
use Rattle.std.specs.List.{flat_map}
use Rattle.std.proofs.lemmas.List.{take_all}
use Rattle.dr_image.specs.Words.{spelled_longs}
use Rattle.dr_image.specs.Image.{bytes_of_column}
use Rattle.dr_segment.specs.declared.dimension.Dimension.{Dimension}
use Rattle.dr_segment.specs.Tables.{column_seen, table_seen}
use Rattle.dr_segment.proofs.WritingLemmas.{length-bytes, length-data, flat_map-map}
use Rattle.dr_segment.proofs.size.image_size.Goals as goal

pub returns : goal.returns
returns c =
    let t = table_seen c.args.columns.now in
    let ms = c.args.columns.now.metrics.items in
    let ds = c.args.columns.now.dims.items in
    let i = c.loop-dimension.dimension-index in
    let le : length ds ≤ i = omega (arith, ap length c.deref-dimension-items.ensures.value, c.loop-dimension-test.false) in
    let dims : length (flat_map (λ (d : Dimension). bytes_of_column (column_seen d)) (take i ds)) ≡ length (flat_map bytes_of_column t.dims) =
    ap (λ (xs : List Dimension). length (flat_map (λ (d : Dimension). bytes_of_column (column_seen d)) xs)) (take_all i ds le) ∙ ap length (sym (flat_map-map column_seen bytes_of_column ds)) in
    let metrics = ap length (sym (flat_map-map (λ m. m.items) spelled_longs ms)) in
    omega (arith, dims, metrics, c.loop-dimension.invariant, length-bytes t, length-data t)
