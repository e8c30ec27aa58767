use Rattle.std.proofs.Common.{◌∙◌, sym, ap, map, [], ◌∷◌, ◌++◌, arith}
use Rattle.std.proofs.lemmas.List.{map-append}
use Rattle.std.proofs.lemmas.List.FromFn.{map-range_with_len_more}
use Rattle.dr_image.specs.Image.{metric_of}
use Rattle.dr_segment.proofs.gathering.no_values.Goals as goal

pub loop-preserved : goal.loop-preserved
loop-preserved c =
    let more = map-range_with_len_more (λ m. metric_of m []) 0 c.loop.counter c.loop.counter (omega arith) in
    ap (map (λ v. v.items)) c.in_ok-push.ensures.items ∙ map-append (λ v. v.items) c.loop.metrics.items _ ∙ (λ i. c.loop.invariant i ++ c.in_ok-with_capacity.ensures.items i ∷ []) ∙ sym more
