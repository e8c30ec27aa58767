use Rattle.std.proofs.Common.{◌≡◌, ◌∙◌, ap, sym, subst, length, map, ◌++◌, ◌≤◌, arith, rules, List, All, FitsSigned}
use Rattle.std.specs.List.{flat_map}
use Rattle.std.specs.Int.{w64}
use Rattle.std.proofs.lemmas.Int.{to_z-of_z}
use Rattle.std.proofs.lemmas.List.{length-map}
use Rattle.dr_image.specs.Words.{spelled_longs}
use Rattle.dr_image.specs.Image.{bytes_of_column}
use Rattle.dr_segment.specs.Heads.{head_bytes}
use Rattle.dr_segment.specs.declared.head.Head.{Head}
use Rattle.dr_segment.specs.declared.dimension.Dimension.{Dimension}
use Rattle.dr_segment.specs.Tables.{column_seen, table_seen}
use Rattle.dr_segment.proofs.WritingLemmas.{image_is, each_few, length-bytes, length-data}
use Rattle.dr_segment.proofs.encoding.image_of.Goals as goal

pub put_dimensions-requires : goal.put_dimensions-requires
put_dimensions-requires c =
    let t = table_seen c.args.columns.now in
    let few : length (flat_map bytes_of_column t.dims) ≤ 1073741824 = omega (arith, c.requires.is, c.requires.few, length-bytes t, length-data t) in
    subst (λ (ds : List Dimension). All (λ (d : Dimension). length d.numbers.items ≤ 134217728) ds) (sym c.deref-3.ensures.value) (each_few c.args.columns.now.dims.items few)

pub returns : goal.returns
returns c =
    let columns = c.args.columns.now in
    let t = table_seen columns in
    let dims : c.len.result ≡ length t.dims = omega (arith, c.len.ensures, columns.dims.ok.0, length-map columns.dims.items column_seen) in
    let metrics : c.len-2.result ≡ length t.metrics = omega (arith, c.len-2.ensures, columns.metrics.ok.0, length-map columns.metrics.items (λ m. m.items)) in
    let rows : c.len-3.result ≡ length t.times = omega (arith, c.len-3.ensures, columns.times.ok.0) in
    let h : Head = record { rollup = columns.rollup; size = c.args.size; chunk = columns.chunk; from = columns.from; to = columns.to; dims = c.len.result; metrics = c.len-2.result; rows = c.len-3.result } in
    let fits : FitsSigned w64 columns.chunk = search rules in
    let chunk = to_z-of_z w64 columns.chunk fits in
    image_is t h _ _ _ _ _
    (λ i. record { rollup = columns.rollup; size = c.requires.is i; chunk = columns.chunk; from = columns.from; to = columns.to; dims = dims i; metrics = metrics i; rows = rows i })
    (c.in_ok-put_head.ensures ∙ (λ i. c.in_ok-bytes.ensures.items i ++ head_bytes (record { rollup = columns.rollup; size = c.args.size; chunk = chunk i; from = columns.from; to = columns.to; dims = c.len.result; metrics = c.len-2.result; rows = c.len-3.result })))
    (c.in_ok-put_longs.ensures ∙ ap (λ k. c.put_head.new.out.items ++ spelled_longs k) c.deref.ensures.value)
    (c.in_ok-put_metrics.ensures ∙ ap (λ k. c.put_longs.new.out.items ++ flat_map spelled_longs (map (λ m. m.items) k)) c.deref-2.ensures.value)
    (c.in_ok-put_dimensions.ensures ∙ ap (λ k. c.put_metrics.new.out.items ++ flat_map bytes_of_column (map column_seen k)) c.deref-3.ensures.value)
    c.in_ok-put_digest.ensures
