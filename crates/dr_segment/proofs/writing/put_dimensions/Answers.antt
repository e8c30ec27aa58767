use Rattle.std.proofs.Common.{◌∙◌, sym, ap, subst, length, ◌≤◌, ◌++◌}
use Rattle.dr_segment.specs.declared.dimension.Dimension.{Dimension}
use Rattle.dr_image.specs.Image.{bytes_of_column}
use Rattle.dr_segment.specs.Tables.{column_seen}
use Rattle.dr_segment.proofs.WritingLemmas.{all_of_them, flat_map-map, one_more}
use Rattle.dr_segment.proofs.writing.put_dimensions.Goals as goal

pub put_dimension-requires : goal.put_dimension-requires
put_dimension-requires c = subst (λ (d : Dimension). length d.numbers.items ≤ 134217728) (sym c.dimension-item.is) (c.requires c.loop-dimension.dimension-index c.dimension-item.result c.loop-dimension-test.true)

pub loop-dimension-preserved : goal.loop-dimension-preserved
loop-dimension-preserved c =
    c.in_ok-put_dimension.ensures ∙ one_more (λ d. bytes_of_column (column_seen d)) c.args.out.now.items c.loop-dimension.out.items c.args.dims.now c.loop-dimension.dimension-index c.dimension-item.result c.loop-dimension-test.true c.dimension-item.is c.loop-dimension.invariant

pub returns : goal.returns
returns c =
    all_of_them (λ d. bytes_of_column (column_seen d)) c.args.out.now.items c.loop-dimension.out.items c.args.dims.now c.loop-dimension.dimension-index c.loop-dimension-test.false c.loop-dimension.invariant
    ∙ ap (λ k. c.args.out.now.items ++ k) (sym (flat_map-map column_seen bytes_of_column c.args.dims.now))
