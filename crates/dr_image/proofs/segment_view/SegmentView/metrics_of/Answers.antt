use Rattle.std.proofs.Common.{◌≡◌, ◌∙◌, sym, arith, rules, get_or, [], ◌∷◌, ◌++◌, List, ℤ, pos, FitsSigned}
use Rattle.std.specs.Int.{w64}
use Rattle.std.proofs.lemmas.Int.{to_z-of_z}
use Rattle.std.proofs.lemmas.List.{map_more}
use Rattle.std.proofs.lemmas.Option.{get_or_from_slice_get}
use Rattle.dr_image.proofs.segment_view.SegmentView.metrics_of.Goals as goal

pub loop-m-preserved : goal.loop-m-preserved
loop-m-preserved c =
    let fits : FitsSigned w64 c.metric.result = search rules in
    let pushed : c.push.new.self ≡ c.loop-m.metrics ++ c.metric.result ∷ [] = simp to_z-of_z at c.in_ok-push.ensures.ok in
    let item : get_or (get_or c.args.self.now.metrics c.loop-m.m []) c.args.i (pos 0) ≡ c.metric.result = get_or_from_slice_get (get_or c.args.self.now.metrics c.loop-m.m []) c.args.i c.metric.result (pos 0) c.metric.ensures in
    let item' = sym item in
    pushed ∙ (λ k. c.loop-m.invariant k ++ item' k ∷ []) ∙ sym (map_more (λ (m : List ℤ). get_or m c.args.i (pos 0)) c.args.self.now.metrics c.loop-m.m [] (omega arith))
