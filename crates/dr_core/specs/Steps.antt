-- The steps of a core: what each answers and the state after it, or its refusal, which changes nothing.
use Rattle.std.specs.Prelude.{ℕ, ℤ, List, length, Option, Some, None, Result, Ok, Err, slice_get}
use Rattle.dr_base.specs.Reading.{◌>>=◌, passed}
use Rattle.dr_base.specs.declared.event.Event.{Event}
use Rattle.dr_merge.specs.declared.job.Job.{Job}
use Rattle.dr_merge.specs.Joined.{worked}
use Rattle.dr_merge.specs.declared.purpose.Purpose.{Purpose}
use Rattle.dr_cuts.specs.State.{State}
use Rattle.dr_cuts.specs.Segments.{pinned}
use Rattle.dr_timeline.specs.declared.outcome.Outcome.{Outcome}
use Rattle.dr_timeline.specs.CoreState.{CoreState, with_timeline, with_job, with_pin}
use Rattle.dr_timeline.specs.Noted.{noted}
use Rattle.dr_timeline.specs.Imaging.{image_at}
use Rattle.dr_timeline.specs.Stepping as timeline
use Rattle.dr_core.specs.declared.core_error.CoreError.{CoreError}
use Rattle.dr_core.specs.declared.core_error.CoreError.TheVariants.{NoSuch, Merge, Timeline}

-- the job or the snapshot of a number, where there is one
abbrev pub given : {A : Type 0} → Option A → Result A CoreError
given (Some x) = Ok x
given None = Err NoSuch

-- an event is accepted; the answer is its number
abbrev pub accept : Event → CoreState → Result (ℕ × CoreState) CoreError
accept e c = do
  n ← passed Timeline (timeline.accept c.timeline e)
  Ok (n.0, with_timeline n.1 c)

-- an input that became no event is counted
abbrev pub note : Outcome → CoreState → CoreState
note outcome c = with_timeline (noted outcome c.timeline) c

-- the open range of a chunk is sealed
abbrev pub seal : ℤ → CoreState → Result CoreState CoreError
seal k c = do
  s ← passed Timeline (timeline.seal c.timeline k)
  Ok (with_timeline s c)

-- a job over sealed ranges is kept; the answer is its number
abbrev pub plan : ℤ → ℕ → ℕ → Purpose → CoreState → Result (ℕ × CoreState) CoreError
plan k lo hi purpose c = do
  job ← passed Timeline (timeline.plan c.timeline k lo hi purpose)
  Ok (length c.jobs, with_job job c)

-- the ranges of a job become one, where its image isn't too large; the answer is the version of that range
abbrev pub committed : State → Job → Result (ℕ × State) CoreError
committed s job = do
  fragment ← passed Merge (worked s.schema job)
  passed Timeline (timeline.commit s job)

abbrev pub commit_job : Job → CoreState → Result (ℕ × CoreState) CoreError
commit_job job c = do
  n ← committed c.timeline job
  Ok (n.0, with_timeline n.1 c)

-- the same for the job of a number
abbrev pub commit : ℕ → CoreState → Result (ℕ × CoreState) CoreError
commit n c = do
  job ← given (slice_get c.jobs n)
  commit_job job c

-- sealed ranges become one at once, by a job that isn't kept
abbrev pub join : ℤ → ℕ → ℕ → Purpose → CoreState → Result (ℕ × CoreState) CoreError
join k lo hi purpose c = do
  job ← passed Timeline (timeline.plan c.timeline k lo hi purpose)
  commit_job job c

-- the image of the sealed range of a chunk at a place
abbrev pub image : ℤ → ℕ → CoreState → Result (List ℕ) CoreError
image k place c = passed Timeline (image_at c.timeline k place)

-- a snapshot of the timeline as it is now is kept; the answer is its number
abbrev pub pin : CoreState → ℕ × CoreState
pin c = (length c.pins, with_pin (pinned c.timeline) c)
