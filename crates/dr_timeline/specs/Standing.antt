-- Where the ranges of a job stand, as a test and a search.
use Rattle.std.specs.Prelude.{ℕ, zero, suc, ◌+◌, nat_eq, nat_lt, nat_le, bytes_eq, Bool, ◌&&◌, Option, Some, None, length, map, if◌then◌else◌}
use Rattle.std.specs.Ordering.{int_eq}
use Rattle.std.specs.Cmp.Lexicographic.{pointwise}
use Rattle.dr_base.specs.declared.row.Row.{Row}
use Rattle.dr_fragment.specs.declared.fragment.Fragment.{Fragment}
use Rattle.dr_merge.specs.declared.job.Job.{Job}
use Rattle.dr_cuts.specs.State.{State, sealed_in}
use Rattle.dr_chunks.specs.Ranges.{fragment_of}
use Rattle.dr_timeline.specs.Steps.{ranges_at}

-- the rows are the same: key and metrics
abbrev pub same_row : Row → Row → Bool
same_row a b = (int_eq a.key.time b.key.time && pointwise bytes_eq a.key.dims b.key.dims) && pointwise int_eq a.metrics b.metrics

-- the fragments are the same: chunk, range and rows
abbrev pub same_fragment : Fragment → Fragment → Bool
same_fragment f g = int_eq f.chunk g.chunk && (nat_eq f.from g.from && (nat_eq f.to g.to && pointwise same_row f.rows g.rows))

-- at that place adjacent sealed ranges of the job's chunk have, in order, the job's serials, ranges and rows
abbrev pub stands_at : State → Job → ℕ → Bool
stands_at s job place =
    (nat_lt 0 (length job.inputs) && nat_le (place + length job.inputs) (length (sealed_in job.chunk s.cuts)))
    && (pointwise nat_eq (map (λ r. r.serial) (ranges_at s job.chunk place (length job.inputs))) job.serials
    && pointwise same_fragment (map (fragment_of s.schema s.stream job.chunk) (ranges_at s job.chunk place (length job.inputs))) job.inputs)

-- the first of so many places, from a place on, that passes a test
abbrev pub first_place : (ℕ → Bool) → ℕ → ℕ → Option ℕ
first_place test place zero = None
first_place test place (suc count) = if test place then Some place else first_place test (place + 1) count

-- the first place at which the job's ranges stand
abbrev pub place_of : State → Job → Option ℕ
place_of s job = first_place (stands_at s job) 0 (length (sealed_in job.chunk s.cuts))
