-- What an act leaves as it was.
use Rattle.std.proofs.Common.{◌≡◌, ◌∙◌, sym, ap, refl, subst, ℕ, ℤ, ◌<◌, ◌≤◌, List, All, true, false, cond, length, nat_le, Result, Ok, Err, inl, inr}
use Rattle.std.specs.Prelude.{nat_eq, Option, Some, None}
use Rattle.std.specs.List.{AllByRecursion}
use Rattle.dr_schema.specs.declared.schema_fields.SchemaFields.{SchemaFields}
use Rattle.dr_schema.specs.declared.schema.Schema.{Schema}
use Rattle.dr_base.specs.declared.event.Event.{Event}
use Rattle.dr_ask.specs.MadeFor.{MadeFor}
use Rattle.dr_merge.specs.declared.job.Job.{Job}
use Rattle.dr_cuts.specs.Laws.{AnswersOverCuts}
use Rattle.dr_cuts.specs.RawAnswer.{raw_answer}
use Rattle.dr_cuts.specs.State.{State, AreCuts}
use Rattle.dr_timeline.specs.declared.timeline_error.TimelineError.{TimelineError}
use Rattle.dr_timeline.specs.declared.timeline_error.TimelineError.TheVariants.{NothingToSeal, CommitsFull}
use Rattle.dr_timeline.specs.Order.{HaveFewRows}
use Rattle.dr_timeline.specs.Standing.{place_of}
use Rattle.dr_timeline.specs.Stepping.{seal, commit_at}
use Rattle.dr_timeline.specs.Steps.{HasVersions, sealed_at, committed, open_in, joined_range}
use Rattle.dr_node.specs.Acting.{IsAtMostOneStep, AnswerAlike}
use Rattle.dr_node.specs.Kept.{Held, IsKept, SerialsDiffer}
use Rattle.dr_node.specs.Seats.{marked}
use Rattle.dr_node.proofs.Serials.{differ-sealed, differ-committed}

-- the events are as they were, and serials still differ
record Leaves (old new : State) : Type 0 where
  schema : new.schema ≡ old.schema
  stream : new.stream ≡ old.stream
  serials : SerialsDiffer old.cuts old.serials → SerialsDiffer new.cuts new.serials

-- the state behind an answer; where there is none, another one
abbrev state_in : {E : Type 0} → State → Result State E → State
state_in other (Ok s) = s
state_in other (Err e) = other

abbrev state_behind : {E : Type 0} → State → Result (ℕ × State) E → State
state_behind other (Ok p) = p.1
state_behind other (Err e) = other

by-seal : (old new : State) (k : ℤ) → seal old k ≡ Ok new → Leaves old new
by-seal old new k h =
    elim (nat_eq (length (open_in old k)) 0) as (λ b. cond {A = Result State TimelineError} b (Err NothingToSeal) (Ok (sealed_at k old)) ≡ Ok new → Leaves old new) [
      | true ↦ λ e. absurd cc
      | false ↦ λ e. subst (λ (t : State). Leaves old t) (ap (state_in old) e) (record { schema = refl; stream = refl; serials = λ d. differ-sealed old k d })
    ] h

by-commit-at : (old new : State) (job : Job) (version : ℕ) (place : Option ℕ) → commit_at old job place ≡ Ok (version, new) → Leaves old new
by-commit-at old new job version None h = absurd cc
by-commit-at old new job version (Some place) h =
    elim (nat_le old.schema.limits.max_commits old.commits) as (λ b. cond {A = Result (ℕ × State) TimelineError} b (Err CommitsFull) (Ok ((joined_range old job place).version, committed old job place)) ≡ Ok (version, new) → Leaves old new) [
      | true ↦ λ e. absurd cc
      | false ↦ λ e. subst (λ (t : State). Leaves old t) (ap (state_behind old) e) (record { schema = refl; stream = refl; serials = λ d. differ-committed old job place d })
    ] h

leaves : (old new : State) → IsAtMostOneStep old new → Leaves old new
leaves old new step = elim step [
  | inl same ↦ subst (λ (t : State). Leaves old t) (sym same) (record { schema = refl; stream = refl; serials = λ d. d })
  | inr more ↦ elim more [ inl sealed ↦ by-seal old new sealed.0 sealed.1 | inr merged ↦ by-commit-at old new merged.0 merged.1 (place_of old merged.0) merged.2 ]
]

-- what lies behind the lock is kept by an act
pub kept-acted : (schema : SchemaFields) (seats : ℕ) (h : Held) (t : State) → IsKept schema seats h → IsAtMostOneStep h.timeline t → AreCuts t.schema t.stream t.cuts → HaveFewRows t.schema t.stream t.cuts → AllByRecursion HasVersions t.cuts
    → IsKept schema seats (record { timeline = t; mine = h.mine; floor = h.floor })
kept-acted schema seats h t kept step cuts few versions =
    let left : Leaves h.timeline t = leaves h.timeline t step in
    record {
      schema_is = left.schema ∙ kept.schema_is;
      cuts = cuts;
      few = few;
      versions = versions;
      serials = left.serials kept.serials;
      marks = subst (λ (es : List Event). All (λ e. e.seat < seats) es) (sym left.stream) kept.marks;
      all_mine = kept.all_mine;
      all_floor = kept.all_floor;
      mine = λ k n at. subst (λ (es : List Event). length (marked k es) ≡ n) (sym left.stream) (kept.mine k n at);
      floor = λ k n at. subst (λ (es : List Event). n ≤ length es) (sym left.stream) (kept.floor k n at);
    }

-- no answer to a matching query changes
pub alike-acted : (old new : State) → AnswersOverCuts → IsAtMostOneStep old new → AreCuts old.schema old.stream old.cuts → AreCuts new.schema new.stream new.cuts → AnswerAlike old new
alike-acted old new over step was is q made matches =
    let left : Leaves old new = leaves old new step in
    let made-new : MadeFor new.schema q = subst (λ (s : Schema). MadeFor s q) (sym left.schema) made in
    let raw : raw_answer new.schema q new.stream ≡ raw_answer old.schema q old.stream = λ i. raw_answer (left.schema i) q (left.stream i) in
    over new.schema q new.stream new.cuts made-new matches is ∙ raw ∙ sym (over old.schema q old.stream old.cuts made matches was)
