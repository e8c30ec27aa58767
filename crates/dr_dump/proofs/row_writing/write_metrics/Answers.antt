use Rattle.std.proofs.Common.{◌≡◌, ◌∙◌, ◌∷◌, [], ◌++◌, ap, arith, rules, FitsSigned}
use Rattle.std.specs.Int.{w64}
use Rattle.std.specs.Fmt.{signed_decimal}
use Rattle.std.proofs.lemmas.Int.{to_z-of_z}
use Rattle.json.specs.Token.{number}
use Rattle.dr_dump.proofs.RowLemmas.{metric_more, metrics_whole}
use Rattle.dr_dump.proofs.row_writing.write_metrics.Goals as goal

pub loop-m-preserved : goal.loop-m-preserved
loop-m-preserved c =
    let fits : FitsSigned w64 c.metric.result = search rules in
    let added : c.i64.new.self.tokens ≡ c.loop-m.out.tokens ++ number (signed_decimal c.metric.result) ∷ [] = simp to_z-of_z at c.in_ok-i64.ensures.ok in (
      c.i64.ensures.room.0 ∙ c.loop-m.invariant.0,
      metric_more _ c.loop-m.out.tokens c.i64.new.self.tokens c.args.view.now.metrics c.args.i c.loop-m.m c.metric.result (omega (arith, c.loop-m-test.true, c.metric_count-m-end.ensures)) c.metric.ensures c.loop-m.invariant.1 added,
    )

pub returns : goal.returns
returns c =
    (c.loop-m.invariant.0, c.loop-m.invariant.1 ∙ ap (λ l. c.args.out.now.tokens ++ l) (metrics_whole c.args.view.now c.args.i c.loop-m.m (omega (arith, c.loop-m-test.false, c.metric_count-m-end.ensures))))
