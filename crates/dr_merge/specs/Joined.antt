-- What the inputs of a job are joined to (Apache Druid documentation, ingestion: merging of persisted segments).
use Rattle.std.specs.Prelude.{◌≡◌, ℕ, ℤ, ◌<◌, nat_le, List, [], ◌∷◌, length, map, fold, Result, Ok, Err, if◌then◌else◌}
use Rattle.std.specs.List.{AllByRecursion}
use Rattle.dr_agg.specs.Rollup.{join}
use Rattle.dr_schema.specs.Columns.{kinds_of}
use Rattle.dr_schema.specs.declared.schema.Schema.{Schema}
use Rattle.dr_image.specs.Sealed.{Sealed, HasImage}
use Rattle.dr_image.specs.Image.{image}
use Rattle.dr_segment.specs.Encoding.{sealed}
use Rattle.dr_fragment.specs.declared.fragment.Fragment.{Fragment}
use Rattle.dr_merge.specs.declared.job.Job.{Job}
use Rattle.dr_merge.specs.declared.merge_error.MergeError.{MergeError}
use Rattle.dr_merge.specs.declared.merge_error.MergeError.TheVariants.{ImageTooLarge}

-- where adjacent fragments begin and end
abbrev pub first_from : List Fragment → ℕ
first_from [] = 0
first_from (f ∷ fs) = f.from

abbrev pub last_to : List Fragment → ℕ
last_to fs = fold (λ to f. f.to) 0 fs

-- adjacent fragments of a chunk as one: the range from the first to the last, and the join of their rows
abbrev pub joined : Schema → ℤ → List Fragment → Fragment
joined schema k fs = record { chunk = k; from = first_from fs; to = last_to fs; rows = join schema.rollup (kinds_of schema) (map (λ f. f.rows) fs) }

abbrev pub joined_fragment : Schema → Job → Fragment
joined_fragment schema job = joined schema job.chunk job.inputs

-- a fragment as a sealed range of the schema
abbrev pub sealed_fragment : Schema → Fragment → Sealed
sealed_fragment schema f = sealed schema f.chunk f.from f.to f.rows

-- each fragment begins where the one before it ends
abbrev pub AreAdjacent : List Fragment → Type 0
AreAdjacent [] = Unit {0}
AreAdjacent (f ∷ []) = Unit {0}
AreAdjacent (f ∷ g ∷ fs) = (f.to ≡ g.from) × AreAdjacent (g ∷ fs)

-- a job that can be worked on: it has inputs, as many serials, and the inputs are adjacent ranges of its chunk, each of which has
-- an image under the schema
pub record IsJobOf (schema : Schema) (job : Job) : Type 0 where
  pub some : 0 < length job.inputs
  pub serials : length job.serials ≡ length job.inputs
  pub chunk : AllByRecursion (λ f. f.chunk ≡ job.chunk) job.inputs
  pub adjacent : AreAdjacent job.inputs
  pub images : AllByRecursion (λ f. HasImage (sealed_fragment schema f)) job.inputs

-- a fragment, or 59 where its image has more bytes than the schema allows
abbrev pub if_fits : Schema → Fragment → Result Fragment MergeError
if_fits schema f = if nat_le (length (image (sealed_fragment schema f))) schema.limits.max_image_bytes then Ok f else Err ImageTooLarge

-- what the work of a job gives
abbrev pub worked : Schema → Job → Result Fragment MergeError
worked schema job = if_fits schema (joined_fragment schema job)
