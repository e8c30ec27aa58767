-- The steps that change a timeline: accepting an event, sealing an open range, and replacing sealed ranges by the one that
-- they join to (Apache Druid documentation, ingestion: persists, merges, segment replacement).
use Rattle.std.specs.Prelude.{◌≡◌, ℕ, ℤ, ◌+◌, ◌-◌, ◌<◌, ◌≤◌, min, nat_le, List, [], ◌∷◌, ◌++◌, length, map, take, drop, fold, if◌then◌else◌}
use Rattle.std.specs.List.{AllByRecursion}
use Rattle.std.specs.Ordering.{int_cmp, match_ordering}
use Rattle.dr_base.specs.declared.event.Event.{Event}
use Rattle.dr_merge.specs.declared.job.Job.{Job}
use Rattle.dr_merge.specs.declared.purpose.Purpose.{Purpose}
use Rattle.dr_merge.specs.declared.purpose.Purpose.TheVariants.{Merge, Publish}
use Rattle.dr_rollup.specs.Unrolled.{rolled_up}
use Rattle.dr_cuts.specs.Chunks.{chunk, chunk_list}
use Rattle.dr_cuts.specs.State.{Range, Cut, State, open_from, open_events, sealed_in, at_chunk}
use Rattle.dr_chunks.specs.Ranges.{fragment_of}
use Rattle.dr_merge.specs.Joined.{joined_fragment}

-- the events of a chunk's open range
abbrev pub open_in : State → ℤ → List Event
open_in s k = open_events (chunk_list s.schema s.stream k) (sealed_in k s.cuts)

-- the open range, up to the end of a list of that length, as a sealed one of that serial
abbrev pub with_seal : ℕ → ℕ → Cut → Cut
with_seal end serial c = record { chunk = c.chunk; sealed = c.sealed ++ record { from = open_from c.sealed; to = end; serial = serial; version = 0 } ∷ []; publications = c.publications }

-- the open range of a chunk is sealed with the next serial
abbrev pub sealed_at : ℤ → State → State
sealed_at k s = record s {
  cuts = at_chunk k (with_seal (length (chunk_list s.schema s.stream k)) s.serials) s.cuts;
  serials = s.serials + 1;
}

-- one more event in the open range of its chunk
abbrev pub with_event : State → Event → State
with_event s e = record s { stream = s.stream ++ e ∷ []; cuts = at_chunk (chunk s.schema e) (λ c. c) s.cuts }

-- where the open range of a chunk has as many rows as are held in memory, it is sealed
abbrev pub sealed_if_full : ℤ → State → State
sealed_if_full k s = if nat_le s.schema.limits.max_rows_in_memory (length (rolled_up s.schema (open_in s k))) then sealed_at k s else s

-- an event is accepted
abbrev pub accepted : State → Event → State
accepted s e = sealed_if_full (chunk s.schema e) (with_event s e)

-- so many sealed ranges of a chunk, from a place on
abbrev pub ranges_at : State → ℤ → ℕ → ℕ → List Range
ranges_at s k place count = take count (drop place (sealed_in k s.cuts))

-- a job over the ranges at the places from lo to before hi
abbrev pub job_of : State → ℤ → ℕ → ℕ → Purpose → Job
job_of s k lo hi purpose = record {
  chunk = k;
  serials = map (λ r. r.serial) (ranges_at s k lo (hi - lo));
  inputs = map (fragment_of s.schema s.stream k) (ranges_at s k lo (hi - lo));
  purpose = purpose;
}

-- at that place adjacent sealed ranges of the job's chunk have, in order, the job's serials, ranges and rows
pub record StandsAt (s : State) (job : Job) (place : ℕ) : Type 0 where
  pub some : 0 < length job.inputs
  pub within : place + length job.inputs ≤ length (sealed_in job.chunk s.cuts)
  pub serials : map (λ r. r.serial) (ranges_at s job.chunk place (length job.inputs)) ≡ job.serials
  pub inputs : map (fragment_of s.schema s.stream job.chunk) (ranges_at s job.chunk place (length job.inputs)) ≡ job.inputs

-- the least version of some ranges
abbrev pub least_version : List Range → ℕ
least_version [] = 0
least_version (r ∷ rs) = fold (λ least range. min least range.version) r.version rs

-- how many publications there were of a chunk
abbrev pub publications_in : ℤ → List Cut → ℕ
publications_in k [] = 0
publications_in k (c ∷ cs) = match_ordering (int_cmp k c.chunk) 0 c.publications (publications_in k cs)

-- how many there are once ranges became one for that purpose
abbrev pub publications_after : Purpose → ℕ → ℕ
publications_after Merge publications = publications
publications_after Publish publications = publications + 1

-- the version of the range that some ranges become, where there are so many publications then: publishing gives it that number,
-- merging keeps the least version of the ranges
abbrev pub version_for : Purpose → ℕ → List Range → ℕ
version_for Merge publications ranges = least_version ranges
version_for Publish publications ranges = publications

-- no range of a chunk has a version over the number of its publications
abbrev pub HasVersions : Cut → Type 0
HasVersions cut = AllByRecursion (λ range. range.version ≤ cut.publications) cut.sealed

-- a range in the place of so many ranges from a place on, for that purpose
abbrev pub replaced : ℕ → ℕ → Purpose → Range → Cut → Cut
replaced place count purpose range c = record {
  chunk = c.chunk;
  sealed = take place c.sealed ++ (range ∷ drop (place + count) c.sealed);
  publications = publications_after purpose c.publications;
}

-- the ranges of the job, which stand at that place, become one, with the next serial
abbrev pub joined_range : State → Job → ℕ → Range
joined_range s job place = record {
  from = (joined_fragment s.schema job).from;
  to = (joined_fragment s.schema job).to;
  serial = s.serials;
  version = version_for job.purpose (publications_after job.purpose (publications_in job.chunk s.cuts)) (ranges_at s job.chunk place (length job.inputs));
}

abbrev pub committed : State → Job → ℕ → State
committed s job place = record s {
  cuts = at_chunk job.chunk (replaced place (length job.inputs) job.purpose (joined_range s job place)) s.cuts;
  serials = s.serials + 1;
  commits = s.commits + 1;
}

-- the job was committed where its ranges stood first, and the answer is the version of the new one
pub record Commits (s : State) (job : Job) (version : ℕ) (new : State) : Type 0 where
  pub place : ℕ
  pub stands : StandsAt s job place
  pub first : (earlier : ℕ) → earlier < place → StandsAt s job earlier → ⊥
  pub version_is : version ≡ (joined_range s job place).version
  pub new_is : new ≡ committed s job place
