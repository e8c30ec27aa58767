-- A run whose queries are answered by several workers.
use Rattle.std.proofs.Common.{◌≡◌, refl, ap, subst, inl, inr, ◌≤◌, List, [], ◌∷◌, ◌++◌}
use Rattle.std.specs.List.{AllByRecursion}
use Rattle.dr_base.specs.declared.event.Event.{Event}
use Rattle.dr_schema.specs.declared.schema.Schema.{Schema}
use Rattle.dr_schema.specs.WellFormed.{IsWellFormed}
use Rattle.dr_cuts.specs.Chunks.{values_onto}
use Rattle.dr_timeline.specs.CoreState.{CoreState, empty_core}
use Rattle.dr_core.specs.declared.step.Step.{Step}
use Rattle.dr_core.specs.declared.step.Step.TheVariants.{Accept, Seal, Plan, Commit, Pin, Ask, Audit}
use Rattle.dr_core.specs.declared.reply.Reply.{Reply}
use Rattle.dr_core.specs.declared.reply.Reply.TheVariants.{Refused}
use Rattle.dr_core.specs.Headline.{accepted_by, pinned_by}
use Rattle.dr_core.specs.Run.{FitsStep}
use Rattle.dr_core.specs.WorkerRun.{LacksThread, MovesByWorkers, RunFromByWorkers, AnswersRawByWorkers, AnswersFromByWorkers, AnswersAreRawByWorkers}
use Rattle.dr_core.proofs.Running.{moves-schema}
use Rattle.dr_core.proofs.RawRuns.{IsRunSoFar, moves-run, step-raw}

pub run_more_by : (old mid new : CoreState) (ss : List Step) (rs : List Reply) (s : Step) (r : Reply) → RunFromByWorkers old ss rs mid → MovesByWorkers mid s r new → RunFromByWorkers old (ss ++ s ∷ []) (rs ++ r ∷ []) new
run_more_by old mid new [] [] s r so_far move = (new, subst (λ (c : CoreState). MovesByWorkers c s r new) so_far move, refl)
run_more_by old mid new [] (x ∷ xs) s r so_far move = absurd so_far
run_more_by old mid new (y ∷ ys) [] s r so_far move = absurd so_far
run_more_by old mid new (y ∷ ys) (x ∷ xs) s r so_far move = (so_far.0, so_far.1, run_more_by so_far.0 mid new ys xs s r so_far.2 move)

-- ---- a refused thread changes nothing

stays-so : (old new : CoreState) (s : Step) (r : Reply) → LacksThread old s r new → new ≡ old
stays-so old new (Accept e) r h = absurd h
stays-so old new (Seal k) r h = absurd h
stays-so old new (Plan k lo hi purpose) r h = absurd h
stays-so old new (Commit n) r h = absurd h
stays-so old new Pin r h = absurd h
stays-so old new (Ask n q) r h = h.1
stays-so old new (Audit n q) r h = absurd h

pub moves_by-schema : (old new : CoreState) (s : Step) (r : Reply) → MovesByWorkers old s r new → new.timeline.schema ≡ old.timeline.schema
moves_by-schema old new s r (inl h) = moves-schema old new s r h
moves_by-schema old new s r (inr h) = ap (λ (c : CoreState). c.timeline.schema) (stays-so old new s r h)

lacks-run : (schema : Schema) (es : List Event) (ess : List (List Event)) (old new : CoreState) (s : Step) (r : Reply) → 1 ≤ schema.limits.max_rows_in_memory → LacksThread old s r new → IsRunSoFar schema es ess old
    → IsRunSoFar schema (es ++ accepted_by s r) (ess ++ pinned_by es s r) new
lacks-run schema es ess old new (Accept e) r least h g = absurd h
lacks-run schema es ess old new (Seal k) r least h g = absurd h
lacks-run schema es ess old new (Plan k lo hi purpose) r least h g = absurd h
lacks-run schema es ess old new (Commit n) r least h g = absurd h
lacks-run schema es ess old new Pin r least h g = absurd h
lacks-run schema es ess old new (Ask n q) r least h g = moves-run schema es ess old new (Ask n q) (Refused 0) least (inr (refl, h.1)) g
lacks-run schema es ess old new (Audit n q) r least h g = absurd h

moves_by-run : (schema : Schema) (es : List Event) (ess : List (List Event)) (old new : CoreState) (s : Step) (r : Reply) → 1 ≤ schema.limits.max_rows_in_memory → MovesByWorkers old s r new → IsRunSoFar schema es ess old
    → IsRunSoFar schema (es ++ accepted_by s r) (ess ++ pinned_by es s r) new
moves_by-run schema es ess old new s r least (inl h) g = moves-run schema es ess old new s r least h g
moves_by-run schema es ess old new s r least (inr h) g = lacks-run schema es ess old new s r least h g

-- ---- the answers

step_by-raw : (schema : Schema) (es : List Event) (ess : List (List Event)) (old new : CoreState) (s : Step) (r : Reply) → FitsStep schema s → MovesByWorkers old s r new → IsRunSoFar schema es ess old → AnswersRawByWorkers schema ess s r
step_by-raw schema es ess old new (Accept e) r fits h g = tt
step_by-raw schema es ess old new (Seal k) r fits h g = tt
step_by-raw schema es ess old new (Plan k lo hi purpose) r fits h g = tt
step_by-raw schema es ess old new (Commit n) r fits h g = tt
step_by-raw schema es ess old new Pin r fits h g = tt
step_by-raw schema es ess old new (Ask n q) r fits (inl h) g = λ matches. inl (step-raw schema es ess old new (Ask n q) r fits h g matches)
step_by-raw schema es ess old new (Ask n q) r fits (inr h) g = λ matches. inr h.0
step_by-raw schema es ess old new (Audit n q) r fits h g = tt

run_by-raw : (schema : Schema) (es : List Event) (ess : List (List Event)) (old new : CoreState) (ss : List Step) (rs : List Reply) → 1 ≤ schema.limits.max_rows_in_memory → AllByRecursion (FitsStep schema) ss
    → RunFromByWorkers old ss rs new → IsRunSoFar schema es ess old → AnswersFromByWorkers schema es ess ss rs
run_by-raw schema es ess old new [] [] least fits h g = tt
run_by-raw schema es ess old new [] (r ∷ rs) least fits h g = absurd h
run_by-raw schema es ess old new (s ∷ ss) [] least fits h g = absurd h
run_by-raw schema es ess old new (s ∷ ss) (r ∷ rs) least fits h g = (
  step_by-raw schema es ess old h.0 s r fits.0 h.1 g,
  run_by-raw schema (es ++ accepted_by s r) (ess ++ pinned_by es s r) h.0 new ss rs least fits.1 h.2 (moves_by-run schema es ess old h.0 s r least h.1 g),
)

-- a run from a timeline without events
pub answers_by-raw : (schema : Schema) (new : CoreState) (ss : List Step) (rs : List Reply) → IsWellFormed schema → AllByRecursion (FitsStep schema) ss → RunFromByWorkers (empty_core schema) ss rs new → AnswersAreRawByWorkers schema ss rs
unfolding values_onto
answers_by-raw schema new ss rs formed fits h =
    run_by-raw schema [] [] (empty_core schema) new ss rs formed.limits.some_rows fits h
    (record { schema_is = refl; stream_is = refl; are_cuts = record { chunks = refl; tiled = tt }; pins = tt })
