-- Each step that changes a timeline as one function of the state before it: its answer and the state after it, or the
-- refusal, which changes nothing.
use Rattle.std.specs.Prelude.{ℕ, ℤ, nat_eq, nat_lt, nat_le, ◌&&◌, Option, Some, None, Result, Ok, Err, length, if◌then◌else◌}
use Rattle.dr_base.specs.declared.event.Event.{Event}
use Rattle.dr_merge.specs.declared.job.Job.{Job}
use Rattle.dr_merge.specs.declared.purpose.Purpose.{Purpose}
use Rattle.dr_timeline.specs.declared.timeline_error.TimelineError.{TimelineError}
use Rattle.dr_timeline.specs.declared.timeline_error.TimelineError.TheVariants.{StreamFull, NothingToSeal, NoSuchRange, Stale, CommitsFull}
use Rattle.dr_cuts.specs.State.{State, sealed_in}
use Rattle.dr_timeline.specs.Steps.{accepted, sealed_at, open_in, job_of, joined_range, committed}
use Rattle.dr_timeline.specs.Standing.{place_of}

-- an event is accepted, unless as many are retained as the spec allows; the answer is its number
abbrev pub accept : State → Event → Result (ℕ × State) TimelineError
accept s e = if nat_le s.schema.limits.max_retained (length s.stream) then Err StreamFull else Ok (length s.stream, accepted s e)

-- the open range of a chunk is sealed, unless it is empty
abbrev pub seal : State → ℤ → Result State TimelineError
seal s k = if nat_eq (length (open_in s k)) 0 then Err NothingToSeal else Ok (sealed_at k s)

-- a job over the sealed ranges at the places from lo to before hi, where there are such
abbrev pub plan : State → ℤ → ℕ → ℕ → Purpose → Result Job TimelineError
plan s k lo hi purpose = if nat_lt lo hi && nat_le hi (length (sealed_in k s.cuts)) then Ok (job_of s k lo hi purpose) else Err NoSuchRange

-- the ranges of a job become one where they stand, unless there were as many commits as the spec allows; the answer is the
-- version of the new range
abbrev pub commit_at : State → Job → Option ℕ → Result (ℕ × State) TimelineError
commit_at s job None = Err Stale
commit_at s job (Some place) =
    if nat_le s.schema.limits.max_commits s.commits then Err CommitsFull else Ok ((joined_range s job place).version, committed s job place)

abbrev pub commit : State → Job → Result (ℕ × State) TimelineError
commit s job = commit_at s job (place_of s job)
