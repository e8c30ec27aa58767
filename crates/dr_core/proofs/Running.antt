-- A run with one more step.
use Rattle.std.proofs.Common.{◌≡◌, ◌∙◌, refl, ap, subst, inl, inr, ℕ, ℤ, Bool, true, false, cond, List, [], ◌∷◌, ◌++◌, length, slice_get, Some, None}
use Rattle.std.specs.Prelude.{Result, Ok, Err, Option, nat_le}
use Rattle.dr_base.specs.Reading.{◌>>=◌, passed}
use Rattle.dr_base.specs.declared.event.Event.{Event}
use Rattle.dr_ask.specs.Asked.{Asked, asked, is_scan}
use Rattle.dr_core.specs.declared.core_error.CoreError.{CoreError}
use Rattle.dr_core.specs.declared.core_error.CoreError.TheVariants.{Merge, Timeline}
use Rattle.dr_core.specs.declared.core_error.CoreError.TheVariants as error
use Rattle.dr_fragment.specs.declared.fragment.Fragment.{Fragment}
use Rattle.dr_merge.specs.declared.merge_error.MergeError.TheVariants.{ImageTooLarge}
use Rattle.dr_image.specs.Image.{image}
use Rattle.dr_merge.specs.Joined.{joined_fragment, sealed_fragment}
use Rattle.dr_core.specs.declared.step.Step.{Step}
use Rattle.dr_core.specs.declared.step.Step.TheVariants.{Accept, Seal, Plan, Commit, Pin, Ask, Audit}
use Rattle.dr_core.specs.declared.reply.Reply.{Reply}
use Rattle.dr_core.specs.declared.reply.Reply.TheVariants.{Accepted, Sealed, Job as JobGiven, Committed, Refused, NoSuch}
use Rattle.dr_core.specs.Steps.{commit_job, given}
use Rattle.dr_core.specs.Asking.{answer_over, audited}
use Rattle.dr_merge.specs.declared.job.Job.{Job}
use Rattle.dr_timeline.specs.declared.timeline_error.TimelineError.{TimelineError}
use Rattle.dr_timeline.specs.declared.timeline_error.TimelineError.TheVariants.{StreamFull, NothingToSeal, NoSuchRange, CommitsFull}
use Rattle.dr_timeline.specs.Refusal.{number_of}
use Rattle.dr_rollup.specs.Unrolled.{rolled_up}
use Rattle.dr_cuts.specs.Chunks.{chunk}
use Rattle.dr_cuts.specs.State.{State}
use Rattle.dr_cuts.specs.RawAnswer.{raw_answer}
use Rattle.dr_timeline.specs.Standing.{place_of}
use Rattle.dr_timeline.specs.Steps.{accepted, with_event, sealed_at, open_in}
use Rattle.dr_timeline.specs.Stepping.{commit_at}
use Rattle.dr_cuts.specs.Segments.{Pinned}
use Rattle.dr_timeline.specs.CoreState.{CoreState, with_timeline, with_job}
use Rattle.dr_core.specs.Run.{RunFrom, Moves, told, taken, reply_to}

pub run_more : (old mid new : CoreState) (ss : List Step) (rs : List Reply) (s : Step) (r : Reply) → RunFrom old ss rs mid → Moves mid s r new → RunFrom old (ss ++ s ∷ []) (rs ++ r ∷ []) new
run_more old mid new [] [] s r so_far move = (new, subst (λ (c : CoreState). Moves c s r new) so_far move, refl)
run_more old mid new [] (x ∷ xs) s r so_far move = absurd so_far
run_more old mid new (y ∷ ys) [] s r so_far move = absurd so_far
run_more old mid new (y ∷ ys) (x ∷ xs) s r so_far move = (so_far.0, so_far.1, run_more so_far.0 mid new ys xs s r so_far.2 move)

-- ---- what holds after a step

-- a step of the timeline that a test refuses
pub told-if : {A B : Type 0} (P : Reply × CoreState → Type 0) (done : B → Reply × CoreState) (next : A → Result B CoreError) (old : CoreState) (refuses : Bool) (e : TimelineError) (x : A)
    → (refuses ≡ true → P (Refused (number_of e), old)) → (refuses ≡ false → P (told done old (next x))) → P (told done old (passed Timeline (cond refuses (Err e) (Ok x)) >>= next))
told-if P done next old true e x refused taken = refused refl
told-if P done next old false e x refused taken = taken refl

-- a step of the timeline that a test lets pass
pub told-unless : {A B : Type 0} (P : Reply × CoreState → Type 0) (done : B → Reply × CoreState) (next : A → Result B CoreError) (old : CoreState) (passes : Bool) (e : TimelineError) (x : A)
    → P (Refused (number_of e), old) → P (told done old (next x)) → P (told done old (passed Timeline (cond passes (Ok x) (Err e)) >>= next))
told-unless P done next old true e x refused taken = taken
told-unless P done next old false e x refused taken = refused

-- a step on what was given
pub told-given : {A : Type 0} (P : Reply × CoreState → Type 0) (done : A → Reply × CoreState) (old : CoreState) (o : Option A) → P (NoSuch, old) → ((x : A) → P (done x)) → P (told done old (given o))
told-given P done old None none each = none
told-given P done old (Some x) none each = each x

pub told-audited : (P : Reply × CoreState → Type 0) (done : Pinned → Reply × CoreState) (old : CoreState) (q : Asked) (o : Option Pinned) → P (NoSuch, old) → ((p : Pinned) → P (done p)) → P (told done old (audited q o))
told-audited P done old q o none each = at (is_scan q.shape)
  where
    at : (b : Bool) → P (told done old (cond b (Err error.NoSuch) (given o)))
    at true = none
    at false = told-given P done old o none each

pub told-with : {A B : Type 0} (P : Reply × CoreState → Type 0) (done : B → Reply × CoreState) (next : A → Result B CoreError) (old : CoreState) (o : Option A)
    → P (NoSuch, old) → ((x : A) → P (told done old (next x))) → P (told done old (given o >>= next))
told-with P done next old None none each = none
told-with P done next old (Some x) none each = each x

-- ---- no step changes the schema

accepted-schema : (s : State) (e : Event) → (accepted s e).schema ≡ s.schema
accepted-schema s e =
    let k : ℤ = chunk s.schema e in
    elim (nat_le s.schema.limits.max_rows_in_memory (length (rolled_up s.schema (open_in (with_event s e) k)))) as (λ b. (cond b (sealed_at k (with_event s e)) (with_event s e)).schema ≡ s.schema) [ true ↦ refl | false ↦ refl ]

abbrev KeepsSchema : CoreState → Reply × CoreState → Type 0
KeepsSchema old t = t.1.timeline.schema ≡ old.timeline.schema

-- the timeline of a core, with what a step of it answers
abbrev pub with_answer : CoreState → ℕ × State → Result (ℕ × CoreState) CoreError
with_answer c n = Ok (n.0, with_timeline n.1 c)

commit-schema : (old : CoreState) (job : Job) (place : Option ℕ) → KeepsSchema old (told (λ (a : ℕ × CoreState). (Committed a.0, a.1)) old (passed Timeline (commit_at old.timeline job place) >>= with_answer old))
commit-schema old job None = refl
commit-schema old job (Some place) = told-if (KeepsSchema old) (λ (a : ℕ × CoreState). (Committed a.0, a.1)) (with_answer old) old _ CommitsFull _ (λ _. refl) (λ _. refl)

-- the work of a job, which is refused where its image is too large
pub told-worked : {B : Type 0} (P : Reply × CoreState → Type 0) (done : B → Reply × CoreState) (next : ℕ × State → Result B CoreError) (old : CoreState) (fits : Bool) (f : Fragment) (r : Result (ℕ × State) TimelineError)
    → P (Refused 59, old) → P (told done old (passed Timeline r >>= next)) → P (told done old ((passed Merge (cond fits (Ok f) (Err ImageTooLarge)) >>= (λ fragment. passed Timeline r)) >>= next))
told-worked P done next old true f r refused taken = taken
told-worked P done next old false f r refused taken = refused

-- the image that the job's ranges are joined to isn't too large
abbrev pub image_fits : CoreState → Job → Bool
image_fits old job = nat_le (length (image (sealed_fragment old.timeline.schema (joined_fragment old.timeline.schema job)))) old.timeline.schema.limits.max_image_bytes

commit_job-schema : (old : CoreState) (job : Job) → KeepsSchema old (told (λ (a : ℕ × CoreState). (Committed a.0, a.1)) old (commit_job job old))
commit_job-schema old job = told-worked (KeepsSchema old) (λ (a : ℕ × CoreState). (Committed a.0, a.1)) (with_answer old) old (image_fits old job) (joined_fragment old.timeline.schema job) (commit_at old.timeline job (place_of old.timeline job)) refl (commit-schema old job (place_of old.timeline job))

taken-schema : (old : CoreState) (s : Step) → KeepsSchema old (taken old s)
taken-schema old (Accept e) = told-if (KeepsSchema old) (λ (a : ℕ × CoreState). (Accepted a.0, a.1)) (with_answer old) old _ StreamFull _ (λ _. refl) (λ _. accepted-schema old.timeline e)
taken-schema old (Seal k) = told-if (KeepsSchema old) (λ new. (Sealed, new)) (λ t. Ok (with_timeline t old)) old _ NothingToSeal _ (λ _. refl) (λ _. refl)
taken-schema old (Plan k lo hi purpose) = told-unless (KeepsSchema old) (λ (a : ℕ × CoreState). (JobGiven a.0, a.1)) (λ job. Ok (length old.jobs, with_job job old)) old _ NoSuchRange _ refl refl
taken-schema old (Commit n) =
    told-with (KeepsSchema old) (λ (a : ℕ × CoreState). (Committed a.0, a.1)) (λ job. commit_job job old) old (slice_get old.jobs n) refl (λ job. commit_job-schema old job)
taken-schema old Pin = refl
taken-schema old (Ask n q) = told-given (KeepsSchema old) (λ p. (reply_to (answer_over (asked q) p), old)) old (slice_get old.pins n) refl (λ p. refl)
taken-schema old (Audit n q) = told-audited (KeepsSchema old) (λ p. (reply_to (raw_answer p.schema (asked q) p.stream), old)) old (asked q) (slice_get old.pins n) refl (λ p. refl)

pub moves-schema : (old new : CoreState) (s : Step) (r : Reply) → Moves old s r new → new.timeline.schema ≡ old.timeline.schema
moves-schema old new s r (inl h) = ap (λ (c : CoreState). c.timeline.schema) h.1 ∙ taken-schema old s
moves-schema old new s r (inr h) = ap (λ (c : CoreState). c.timeline.schema) h.1
