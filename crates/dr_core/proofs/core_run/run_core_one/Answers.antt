use Rattle.std.proofs.Common.{subst}
use Rattle.std.proofs.lemmas.Result.{IfOk-weaker}
use Rattle.dr_schema.specs.WellFormed.{IsWellFormed}
use Rattle.dr_timeline.specs.CoreState.{CoreState}
use Rattle.dr_core.specs.Run.{RunFrom}
use Rattle.dr_core.specs.Headline.{AnswersAreRaw}
use Rattle.dr_core.proofs.RawRuns.{answers-raw}
use Rattle.dr_core.proofs.core_run.run_core_one.Goals as goal

pub returns-clause-raw_where_matching : goal.returns-clause-raw_where_matching
returns-clause-raw_where_matching c =
    let empty = c.in_ok-core.ensures.empty in
    let formed : IsWellFormed c.args.spec = subst (λ (core : CoreState). IsWellFormed core.timeline.schema) empty c.in_ok-core.ensures.well_formed in
    IfOk-weaker c.take.result (λ replies. RunFrom c.in_ok-core.core c.args.steps.now replies.items c.take.new.core) (λ replies. AnswersAreRaw c.args.spec c.args.steps.now replies.items)
    (λ replies run. answers-raw c.args.spec c.take.new.core c.args.steps.now replies.items formed c.requires (subst (λ (core : CoreState). RunFrom core c.args.steps.now replies.items c.take.new.core) empty run))
    c.take.ensures
