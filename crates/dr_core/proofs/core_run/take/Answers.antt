use Rattle.std.proofs.Common.{◌∙◌, sym, subst, take}
use Rattle.std.proofs.lemmas.List.{take_more}
use Rattle.dr_schema.specs.declared.schema.Schema.{Schema}
use Rattle.dr_cuts.proofs.Each.{All-at}
use Rattle.dr_core.proofs.Running.{run_more, moves-schema}
use Rattle.dr_core.specs.Run.{FitsStep}
use Rattle.dr_core.proofs.core_run.take.Goals as goal

pub take_step-reply-requires : goal.take_step-reply-requires
take_step-reply-requires c =
    let fits : FitsStep c.args.core.now.timeline.schema c.step-item.result =
    subst (FitsStep c.args.core.now.timeline.schema) (sym c.step-item.is) (All-at (FitsStep c.args.core.now.timeline.schema) c.args.steps.now c.loop-step.step-index c.step-item.result c.loop-step-test.true c.requires) in
    subst (λ (schema : Schema). FitsStep schema c.step-item.result) (sym c.loop-step.invariant.0) fits

pub loop-step-preserved : goal.loop-step-preserved
loop-step-preserved c = (
  moves-schema c.loop-step.core c.take_step-reply.new.core c.step-item.result c.take_step-reply.result c.take_step-reply.ensures ∙ c.loop-step.invariant.0,
  rw (take_more c.args.steps.now c.loop-step.step-index c.step-item.result c.loop-step-test.true, ← c.step-item.is, c.in_ok-push.ensures.items)
      (run_more c.args.core.now c.loop-step.core c.take_step-reply.new.core (take c.loop-step.step-index c.args.steps.now) c.loop-step.replies.items c.step-item.result c.take_step-reply.result c.loop-step.invariant.1 c.take_step-reply.ensures),
)
