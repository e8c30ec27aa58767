use Rattle.std.proofs.Common.{◌≡◌, ◌∙◌, sym, refl, take, arith}
use Rattle.std.proofs.lemmas.List.{take_all}
use Rattle.dr_fragment.proofs.row_ref.are_metrics_equal.Goals as goal

pub returns : goal.returns
returns c =
    let n = c.metric_count-count.ensures in
    let m = c.metric_count.ensures in
    let same = c.if-metric_count-count.false in
    let past = c.loop-m-test.false in
    let a : take c.loop-m.m c.args.a.now.metrics ≡ c.args.a.now.metrics = take_all c.loop-m.m c.args.a.now.metrics (omega arith) in
    let b : take c.loop-m.m c.args.b.now.metrics ≡ c.args.b.now.metrics = take_all c.loop-m.m c.args.b.now.metrics (omega arith) in
    (λ h. sym a ∙ c.loop-m.invariant ∙ b, λ h. refl)
