use Rattle.std.proofs.Common.{subst}
use Rattle.std.proofs.lemmas.Result.{IfOk-weaker}
use Rattle.dr_schema.specs.WellFormed.{IsWellFormed}
use Rattle.dr_timeline.specs.CoreState.{CoreState}
use Rattle.dr_core.specs.WorkerRun.{RunFromByWorkers, AnswersAreRawByWorkers}
use Rattle.dr_core.proofs.WorkerRuns.{answers_by-raw}
use Rattle.dr_core.proofs.worker_run.run_core.Goals as goal

pub returns-clause-raw_where_matching : goal.returns-clause-raw_where_matching
returns-clause-raw_where_matching g c =
    let empty = c.in_ok-core.ensures.empty in
    let formed : IsWellFormed c.args.spec = subst (λ (core : CoreState). IsWellFormed core.timeline.schema) empty c.in_ok-core.ensures.well_formed in
    IfOk-weaker c.take_by_workers.result (λ replies. RunFromByWorkers c.in_ok-core.core c.args.steps.now replies.items c.take_by_workers.new.core) (λ replies. AnswersAreRawByWorkers c.args.spec c.args.steps.now replies.items)
    (λ replies run. answers_by-raw c.args.spec c.take_by_workers.new.core c.args.steps.now replies.items formed c.requires (subst (λ (core : CoreState). RunFromByWorkers core c.args.steps.now replies.items c.take_by_workers.new.core) empty run))
    c.take_by_workers.ensures
