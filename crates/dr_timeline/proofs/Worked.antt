-- What the work of a job gives is what its inputs are joined to.
use Rattle.std.proofs.Common.{◌≡◌, true, false, Ok, Err, length}
use Rattle.std.specs.Prelude.{nat_le, if◌then◌else◌}
use Rattle.dr_image.specs.Image.{image}
use Rattle.dr_schema.specs.declared.schema.Schema.{Schema}
use Rattle.dr_fragment.specs.declared.fragment.Fragment.{Fragment}
use Rattle.dr_merge.specs.declared.job.Job.{Job}
use Rattle.dr_merge.specs.declared.merge_error.MergeError.TheVariants.{ImageTooLarge}
use Rattle.dr_merge.specs.Joined.{joined_fragment, sealed_fragment, worked}

pub worked_is : (schema : Schema) (job : Job) (f : Fragment) → worked schema job ≡ Ok f → f ≡ joined_fragment schema job
worked_is schema job f h =
    elim (nat_le (length (image (sealed_fragment schema (joined_fragment schema job)))) schema.limits.max_image_bytes)
    as (λ b. (if b then Ok (joined_fragment schema job) else Err ImageTooLarge) ≡ Ok f → f ≡ joined_fragment schema job)
    [ true ↦ λ e. cc | false ↦ λ e. absurd cc ] h
