-- What an act may do to a timeline, and what it is made on.
use Rattle.std.specs.Prelude.{◌≡◌, ◌⊎◌, ℕ, ℤ, Ok, true}
use Rattle.dr_schema.specs.declared.schema_fields.SchemaFields.{SchemaFields}
use Rattle.dr_ask.specs.Asked.{Asked}
use Rattle.dr_ask.specs.MadeFor.{MadeFor}
use Rattle.dr_ask.specs.Matching.{is_matching}
use Rattle.dr_answers.specs.Answer.{answer}
use Rattle.dr_merge.specs.declared.job.Job.{Job}
use Rattle.dr_cuts.specs.State.{State}
use Rattle.dr_cuts.specs.Segments.{pinned, rows_of}
use Rattle.dr_timeline.specs.Stepping.{seal, commit}
use Rattle.dr_node.specs.Kept.{Held, IsKept}

-- nothing, or one seal, or one commit
abbrev pub IsAtMostOneStep : State → State → Type 0
IsAtMostOneStep old new =
    (new ≡ old) ⊎ ((k : ℤ) × (seal old k ≡ Ok new)) ⊎ ((job : Job) × (version : ℕ) × (commit old job ≡ Ok (version, new)))

-- each matching query has one answer over the rows of both
abbrev pub AnswerAlike : State → State → Type 0
AnswerAlike old new =
    (q : Asked) → MadeFor old.schema q → is_matching q ≡ true → answer q (rows_of (pinned new)) ≡ answer q (rows_of (pinned old))

-- an act was made on what lies behind the lock of a node: all is in order before it and after it, the seats' counts are as they
-- were, and no answer to a matching query changes
pub record IsActed {Answer : Type 0} (schema : SchemaFields) (seats : ℕ) (does : State → Answer → State → Type 0) (given : Answer) (old new : Held) : Type 0 where
  pub was_kept : IsKept schema seats old
  pub is_kept : IsKept schema seats new
  pub mine : new.mine ≡ old.mine
  pub floor : new.floor ≡ old.floor
  pub done : does old.timeline given new.timeline
  pub alike : AnswerAlike old.timeline new.timeline
