use Rattle.std.proofs.Common.{◌∙◌, sym, ap, ◌++◌}
use Rattle.dr_image.specs.Words.{spelled_longs}
use Rattle.dr_segment.proofs.WritingLemmas.{all_of_them, flat_map-map}
use Rattle.dr_segment.proofs.writing.put_metrics.Goals as goal

pub returns : goal.returns
returns c =
    all_of_them (λ m. spelled_longs m.items) c.args.out.now.items c.loop-metric.out.items c.args.metrics.now c.loop-metric.metric-index c.loop-metric-test.false c.loop-metric.invariant
    ∙ ap (λ k. c.args.out.now.items ++ k) (sym (flat_map-map (λ m. m.items) spelled_longs c.args.metrics.now))
