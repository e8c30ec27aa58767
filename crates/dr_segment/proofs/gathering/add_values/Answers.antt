use Rattle.std.proofs.Common.{◌≡◌, ◌∙◌, ap, subst, map, length, [], ◌∷◌, ◌++◌, ◌<◌, arith, rules, ℤ, FitsSigned}
use Rattle.std.specs.Int.{w64}
use Rattle.std.proofs.lemmas.Int.{to_z-of_z}
use Rattle.std.proofs.lemmas.List.{length-map}
use Rattle.dr_segment.specs.Columns.{AddsRow}
use Rattle.dr_segment.proofs.GatheringLemmas.{adds_none, adds_more}
use Rattle.dr_segment.proofs.gathering.add_values.Goals as goal

pub loop-m-init : goal.loop-m-init
loop-m-init c = adds_none (map (λ v. v.items) c.args.metrics.now.items) c.args.row.now.metrics

pub loop-m-preserved : goal.loop-m-preserved
loop-m-preserved c =
    let old = c.args.metrics.now.items in
    let now = c.loop-m.metrics.items in
    let lt : c.loop-m.m < length now = omega (arith, c.loop-m-test.true, c.len-m-end.ensures, c.args.metrics.now.ok.0, c.loop-m.invariant.long, length-map old (λ v. v.items), length-map now (λ v. v.items)) in
    let fits : FitsSigned w64 c.metric_at.result = search rules in
    let value = to_z-of_z w64 c.metric_at.result fits ∙ c.metric_at.ensures in
    adds_more (λ v. v.items) (map (λ v. v.items) old) now c.args.row.now.metrics c.loop-m.m c.index_mut-values.result.now c.push.new.self c.loop-m.invariant lt c.index_mut-values.ensures.value
    (c.in_ok-push.ensures.items ∙ ap (λ (z : ℤ). c.index_mut-values.result.now.items ++ z ∷ []) value)

pub returns : goal.returns
returns c =
    let old = c.args.metrics.now.items in
    let all : c.loop-m.m ≡ length old = omega (arith, c.loop-m-test.false, c.loop-m.auto.m-end, c.len-m-end.ensures, c.args.metrics.now.ok.0) in
    subst (λ n. AddsRow (map (λ v. v.items) old) (map (λ v. v.items) c.loop-m.metrics.items) c.args.row.now.metrics n) all c.loop-m.invariant
