use Rattle.std.proofs.Common.{◌∙◌, sym, ap, map, [], ◌∷◌, ◌++◌, arith}
use Rattle.std.proofs.lemmas.List.{map-append}
use Rattle.std.proofs.lemmas.List.FromFn.{map-range_with_len_more}
use Rattle.dr_image.specs.Image.{column_of, values_of}
use Rattle.dr_segment.specs.Tables.{column_seen}
use Rattle.dr_segment.proofs.gathering.dimensions_of.Goals as goal

pub loop-d-preserved : goal.loop-d-preserved
loop-d-preserved c =
    let more = map-range_with_len_more (λ d. column_of (values_of d c.args.rows.now)) 0 c.loop-d.d c.loop-d.d (omega arith) in
    ap (map column_seen) c.in_ok-push.ensures.items ∙ map-append column_seen c.loop-d.dims.items (c.in_ok-dimension_of_rows.field-0 ∷ []) ∙ (λ i. c.loop-d.invariant i ++ c.in_ok-dimension_of_rows.ensures i ∷ []) ∙ sym more
