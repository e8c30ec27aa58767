-- What a timeline keeps, and where a job stands in it. No public contract cites this file.
use Rattle.std.specs.Prelude.{◌≡◌, ℕ, ◌+◌, ◌<◌, ◌≤◌, List, length, map, take, drop}
use Rattle.std.specs.List.{AllByRecursion}
use Rattle.std.specs.Str.{IsUtf8}
use Rattle.dr_base.specs.declared.event.Event.{Event}
use Rattle.dr_schema.specs.Fits.{FitsSchema}
use Rattle.dr_schema.specs.WellFormed.{IsWellFormed}
use Rattle.dr_schema.specs.declared.schema.Schema.{Schema}
use Rattle.dr_merge.specs.declared.job.Job.{Job}
use Rattle.dr_chunks.specs.declared.chunk.Chunk.{Chunk}
use Rattle.dr_chunks.specs.declared.sealed_range.SealedRange.{SealedRange}
use Rattle.dr_cuts.specs.Chunks.{chunks}
use Rattle.dr_chunks.specs.Held.{Holds, HasFewRows, total_open}

-- the dimension values of an event are UTF-8, as each text is
abbrev pub HasTexts : Event → Type 0
HasTexts e = AllByRecursion IsUtf8 e.dims

-- a chunk has no more publications than there were commits, and no range of it has a version over these
pub record IsNumbered (commit_count : ℕ) (c : Chunk) : Type 0 where
  pub publications : c.publications ≤ commit_count
  pub versions : AllByRecursion (λ s. s.version ≤ c.publications) c.sealed

-- the chunks are those of the events, which fit the schema; a seal takes at least one event
pub record Keeps (schema : Schema) (es : List Event) (cs : List Chunk) (seal_count commit_count : ℕ) : Type 0 where
  pub formed : IsWellFormed schema
  pub fit : AllByRecursion (FitsSchema schema) es
  pub texts : AllByRecursion HasTexts es
  pub starts : map (λ c. c.start) cs ≡ chunks schema es
  pub each : AllByRecursion (Holds schema es) cs
  pub few : AllByRecursion (HasFewRows schema) cs
  pub numbered : AllByRecursion (IsNumbered commit_count) cs
  pub retained : length es ≤ schema.limits.max_retained
  pub seals : seal_count + total_open cs ≤ length es
  pub commits : commit_count ≤ schema.limits.max_commits

-- the job's ranges stand at that place among the sealed ranges of its chunk
pub record StandsIn (sealed : List SealedRange) (job : Job) (place : ℕ) : Type 0 where
  pub some : 0 < length job.inputs
  pub within : place + length job.inputs ≤ length sealed
  pub serials : map (λ s. s.serial) (take (length job.inputs) (drop place sealed)) ≡ job.serials
  pub inputs : map (λ s. s.fragment) (take (length job.inputs) (drop place sealed)) ≡ job.inputs
