use Rattle.std.proofs.Common.{◌∙◌, ap}
use Rattle.dr_schema.specs.declared.schema.Schema.{Schema}
use Rattle.dr_merge.specs.Joined.{joined_fragment}
use Rattle.dr_timeline.proofs.Worked.{worked_is}
use Rattle.dr_core.proofs.timeline_core.commit_to.Goals as goal

pub commit-requires : goal.commit-requires
commit-requires c =
    worked_is c.schema.result.now c.args.job.now c.in_ok-fragment.fragment c.in_ok-fragment.ensures
    ∙ ap (λ (s : Schema). joined_fragment s c.args.job.now) (c.schema.ensures.value ∙ c.spec.ensures)
