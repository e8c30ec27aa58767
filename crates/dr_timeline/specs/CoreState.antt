-- A run of steps on a timeline so far.
use Rattle.std.specs.Prelude.{◌≡◌, List, [], ◌∷◌, ◌++◌}
use Rattle.std.specs.List.{AllByRecursion}
use Rattle.dr_schema.specs.declared.schema.Schema.{Schema}
use Rattle.dr_merge.specs.declared.job.Job.{Job}
use Rattle.dr_merge.specs.Joined.{IsJobOf}
use Rattle.dr_cuts.specs.State.{State, empty_state}
use Rattle.dr_cuts.specs.Segments.{Pinned}

-- a run so far: its timeline, and the jobs and the snapshots that were given, in order
pub record CoreState : Type 0 where
  pub timeline : State
  pub jobs : List Job
  pub pins : List Pinned

abbrev pub empty_core : Schema → CoreState
empty_core schema = record { timeline = empty_state schema; jobs = []; pins = [] }

abbrev pub with_timeline : State → CoreState → CoreState
with_timeline t c = record { timeline = t; jobs = c.jobs; pins = c.pins }

abbrev pub with_job : Job → CoreState → CoreState
with_job job c = record { timeline = c.timeline; jobs = c.jobs ++ job ∷ []; pins = c.pins }

abbrev pub with_pin : Pinned → CoreState → CoreState
with_pin p c = record { timeline = c.timeline; jobs = c.jobs; pins = c.pins ++ p ∷ [] }

-- each job can be worked on, as a run keeps it between steps
abbrev pub CanWork : Schema → List Job → Type 0
CanWork schema jobs = AllByRecursion (IsJobOf schema) jobs

-- each snapshot is of the schema
abbrev pub HaveSchema : Schema → List Pinned → Type 0
HaveSchema schema pins = AllByRecursion (λ p. p.schema ≡ schema) pins
