-- Each answer of a run is the raw answer, over the definitions alone.
use Rattle.std.proofs.Common.{◌≡◌, ◌∙◌, sym, refl, ap, subst, inl, inr, ℕ, ℤ, ◌≤◌, Bool, true, false, List, [], ◌∷◌, ◌++◌, length, Some, None, zero, suc, cond, nat_le, arith}
use Rattle.std.specs.Prelude.{Option, Ok, nat_eq, not, ◌&&◌, ◌||◌}
use Rattle.dr_base.specs.Reading.{◌>>=◌, passed}
use Rattle.std.specs.List.{AllByRecursion, slice_get}
use Rattle.std.proofs.lemmas.List.{append-nil}
use Rattle.std.proofs.lemmas.Bool.Decides.{nat_tests}
use Rattle.dr_base.specs.declared.event.Event.{Event}
use Rattle.dr_base.specs.declared.row.Row.{Row}
use Rattle.dr_agg.specs.Rollup.{rollup_onto}
use Rattle.dr_schema.specs.declared.schema.Schema.{Schema}
use Rattle.dr_schema.specs.WellFormed.{IsWellFormed}
use Rattle.dr_ask.specs.Asked.{Asked, asked, is_scan}
use Rattle.dr_ask.specs.Matching.{all_match, is_matching}
use Rattle.dr_ask.specs.MadeFor.{MadeFor}
use Rattle.dr_answers.specs.Answer.{answer}
use Rattle.dr_merge.specs.declared.job.Job.{Job}
use Rattle.dr_core.specs.declared.core_error.CoreError.TheVariants.{Timeline}
use Rattle.dr_core.specs.declared.step.Step.{Step}
use Rattle.dr_core.specs.declared.step.Step.TheVariants.{Accept, Seal, Plan, Commit, Pin, Ask, Audit}
use Rattle.dr_core.specs.declared.reply.Reply.{Reply}
use Rattle.dr_core.specs.declared.reply.Reply.TheVariants.{Accepted, Sealed, Job as JobGiven, Committed, Refused}
use Rattle.dr_timeline.specs.declared.timeline_error.TimelineError.{TimelineError}
use Rattle.dr_timeline.specs.declared.timeline_error.TimelineError.TheVariants.{NoMemory, StreamFull, NothingToSeal, NoSuchRange, Stale, CommitsFull}
use Rattle.dr_timeline.specs.Refusal.{number_of}
use Rattle.dr_rollup.specs.Unrolled.{rolled_up}
use Rattle.dr_cuts.specs.Chunks.{chunk, values_onto}
use Rattle.dr_cuts.specs.RawAnswer.{raw_answer}
use Rattle.dr_cuts.specs.State.{State, Cut, AreCuts}
use Rattle.dr_timeline.specs.Standing.{place_of}
use Rattle.dr_timeline.specs.Steps.{accepted, with_event, sealed_at, open_in, committed}
use Rattle.dr_timeline.specs.Stepping.{commit_at}
use Rattle.dr_cuts.specs.Segments.{Pinned, pinned, infos, rows_over, rows_of}
use Rattle.dr_timeline.specs.CoreState.{CoreState, empty_core, with_timeline, with_job, with_pin}
use Rattle.dr_core.specs.Run.{FitsStep, Moves, told, taken, RunFrom, reply_to}
use Rattle.dr_core.specs.Steps.{commit_job, given}
use Rattle.dr_core.specs.Asking.{answer_over}
use Rattle.dr_timeline.specs.Scanning.{scan_over}
use Rattle.dr_core.specs.Headline.{accepted_by, pinned_by, IsRaw, AnswersRaw, AnswersFrom, AnswersAreRaw}
use Rattle.dr_core.proofs.CutSteps.{cuts-opened, cuts-after_seal, cuts-after_merge}
use Rattle.dr_cuts.proofs.Matching.{answer-cut_rows}
use Rattle.dr_timeline.proofs.Placing.{place_of-stands}
use Rattle.dr_core.proofs.Running.{told-if, told-unless, told-given, told-audited, told-with, told-worked, image_fits, with_answer}
use Rattle.dr_merge.specs.Joined.{joined_fragment}

-- ---- an event that may seal

no-rows : (schema : Schema) → rolled_up schema [] ≡ []
unfolding rollup_onto
no-rows schema = refl

-- the open range is sealed where it has as many rows as are held, so it isn't empty
cuts-if_full : (s : State) (k : ℤ) → 1 ≤ s.schema.limits.max_rows_in_memory → AreCuts s.schema s.stream s.cuts
    → (b : Bool) → nat_le s.schema.limits.max_rows_in_memory (length (rolled_up s.schema (open_in s k))) ≡ b → AreCuts s.schema s.stream (cond b (sealed_at k s) s).cuts
cuts-if_full s k least are true full =
    cuts-after_seal s k s.serials are (λ none.
    let count : length (rolled_up s.schema (open_in s k)) ≡ 0 = ap (λ (es : List Event). length (rolled_up s.schema es)) none ∙ ap (λ (rs : List Row). length rs) (no-rows s.schema) in
    let many : s.schema.limits.max_rows_in_memory ≤ length (rolled_up s.schema (open_in s k)) = grind (arith, nat_tests) in
    absurd (omega arith))
cuts-if_full s k least are false full = are

if-stream : (s : State) (k : ℤ) (b : Bool) → (cond b (sealed_at k s) s).stream ≡ s.stream
if-stream s k true = refl
if-stream s k false = refl

if-schema : (s : State) (k : ℤ) (b : Bool) → (cond b (sealed_at k s) s).schema ≡ s.schema
if-schema s k true = refl
if-schema s k false = refl

-- ---- a run so far, in terms of its steps and replies

-- a snapshot of these events, cut somewhere
pub record IsPin (schema : Schema) (es : List Event) (p : Pinned) : Type 0 where
  pub schema_is : p.schema ≡ schema
  pub stream_is : p.stream ≡ es
  pub cuts : List Cut
  pub are_cuts : AreCuts schema es cuts
  pub ranges_are : p.ranges ≡ infos schema es cuts

abbrev pub ArePins : Schema → List (List Event) → List Pinned → Type 0
ArePins schema [] [] = Unit {0}
ArePins schema [] (p ∷ ps) = ⊥
ArePins schema (es ∷ ess) [] = ⊥
ArePins schema (es ∷ ess) (p ∷ ps) = IsPin schema es p × ArePins schema ess ps

pins-push : (schema : Schema) (ess : List (List Event)) (ps : List Pinned) (es : List Event) (p : Pinned) → ArePins schema ess ps → IsPin schema es p → ArePins schema (ess ++ es ∷ []) (ps ++ p ∷ [])
pins-push schema [] [] es p h one = (one, tt)
pins-push schema [] (q ∷ qs) es p h one = absurd h
pins-push schema (x ∷ xs) [] es p h one = absurd h
pins-push schema (x ∷ xs) (q ∷ qs) es p h one = (h.0, pins-push schema xs qs es p h.1 one)

pub record IsRunSoFar (schema : Schema) (es : List Event) (ess : List (List Event)) (c : CoreState) : Type 0 where
  pub schema_is : c.timeline.schema ≡ schema
  pub stream_is : c.timeline.stream ≡ es
  pub are_cuts : AreCuts c.timeline.schema c.timeline.stream c.timeline.cuts
  pub pins : ArePins schema ess c.pins

-- the events and the snapshots as they were
pub stays : (schema : Schema) (es : List Event) (ess : List (List Event)) (c : CoreState) (a : List Event) (b : List (List Event)) → a ≡ [] → b ≡ [] → IsRunSoFar schema es ess c → IsRunSoFar schema (es ++ a) (ess ++ b) c
stays schema es ess c a b none no_pin h =
    subst (λ (l : List Event). IsRunSoFar schema l (ess ++ b) c) (sym (append-nil es) ∙ ap (λ x. es ++ x) (sym none))
    (subst (λ (l : List (List Event)). IsRunSoFar schema es l c) (sym (append-nil ess) ∙ ap (λ x. ess ++ x) (sym no_pin)) h)

none-accepted : (s : Step) (n : ℕ) → accepted_by s (Refused n) ≡ []
none-accepted (Accept e) n = refl
none-accepted (Seal k) n = refl
none-accepted (Plan k lo hi p) n = refl
none-accepted (Commit j) n = refl
none-accepted Pin n = refl
none-accepted (Ask j q) n = refl
none-accepted (Audit j q) n = refl

none-pinned : (es : List Event) (s : Step) (n : ℕ) → pinned_by es s (Refused n) ≡ []
none-pinned es (Accept e) n = refl
none-pinned es (Seal k) n = refl
none-pinned es (Plan k lo hi p) n = refl
none-pinned es (Commit j) n = refl
none-pinned es Pin n = refl
none-pinned es (Ask j q) n = refl
none-pinned es (Audit j q) n = refl

-- a step that changes the cuts alone
pub recut : (schema : Schema) (es : List Event) (ess : List (List Event)) (old : CoreState) (t : State) → t.schema ≡ old.timeline.schema → t.stream ≡ old.timeline.stream → AreCuts t.schema t.stream t.cuts
    → IsRunSoFar schema es ess old → IsRunSoFar schema (es ++ []) (ess ++ []) (with_timeline t old)
recut schema es ess old t same_schema same_stream are h =
    stays schema es ess (with_timeline t old) [] [] refl refl (record { schema_is = same_schema ∙ h.schema_is; stream_is = same_stream ∙ h.stream_is; are_cuts = are; pins = h.pins })

-- ---- one step

-- the run so far with one more step, of that reply and state
abbrev Follows : Schema → List Event → List (List Event) → Step → Reply × CoreState → Type 0
Follows schema es ess s t = IsRunSoFar schema (es ++ accepted_by s t.0) (ess ++ pinned_by es s t.0) t.1

refused-run : (schema : Schema) (es : List Event) (ess : List (List Event)) (old : CoreState) (s : Step) (e : TimelineError) → IsRunSoFar schema es ess old → Follows schema es ess s (Refused (number_of e), old)
refused-run schema es ess old s e h = stays schema es ess old (accepted_by s (Refused (number_of e))) (pinned_by es s (Refused (number_of e))) (none-accepted s (number_of e)) (none-pinned es s (number_of e)) h

refused-with : (schema : Schema) (es : List Event) (ess : List (List Event)) (old : CoreState) (s : Step) (n : ℕ) → IsRunSoFar schema es ess old → Follows schema es ess s (Refused n, old)
refused-with schema es ess old s n h = stays schema es ess old (accepted_by s (Refused n)) (pinned_by es s (Refused n)) (none-accepted s n) (none-pinned es s n) h

pub accept-run : (schema : Schema) (es : List Event) (ess : List (List Event)) (old : CoreState) (e : Event) → 1 ≤ schema.limits.max_rows_in_memory → IsRunSoFar schema es ess old → IsRunSoFar schema (es ++ e ∷ []) (ess ++ []) (with_timeline (accepted old.timeline e) old)
accept-run schema es ess old e least h =
    let t : State = old.timeline in
    let k : ℤ = chunk t.schema e in
    let opened : State = with_event t e in
    let full : Bool = nat_le t.schema.limits.max_rows_in_memory (length (rolled_up t.schema (open_in opened k))) in
    let after : State = cond full (sealed_at k opened) opened in
    let schema_after : after.schema ≡ t.schema = if-schema opened k full in
    let stream_after : after.stream ≡ t.stream ++ e ∷ [] = if-stream opened k full in
    let small : 1 ≤ t.schema.limits.max_rows_in_memory = subst (λ (sc : Schema). 1 ≤ sc.limits.max_rows_in_memory) (sym h.schema_is) least in
    let cuts : AreCuts t.schema (t.stream ++ e ∷ []) after.cuts = cuts-if_full opened k small (cuts-opened t.schema t.stream t.cuts e h.are_cuts) full refl in
    record {
      schema_is = schema_after ∙ h.schema_is;
      stream_is = stream_after ∙ ap (λ l. l ++ e ∷ []) h.stream_is;
      are_cuts = coe 0 1 (i. AreCuts ((sym schema_after) i) ((sym stream_after) i) after.cuts) cuts;
      pins = subst (λ (l : List (List Event)). ArePins schema l old.pins) (sym (append-nil ess)) h.pins;
    }

pub seal-run : (schema : Schema) (es : List Event) (ess : List (List Event)) (old : CoreState) (k : ℤ) → nat_eq (length (open_in old.timeline k)) 0 ≡ false → IsRunSoFar schema es ess old → IsRunSoFar schema (es ++ []) (ess ++ []) (with_timeline (sealed_at k old.timeline) old)
seal-run schema es ess old k some h =
    recut schema es ess old (sealed_at k old.timeline) refl refl
    (cuts-after_seal old.timeline k old.timeline.serials h.are_cuts (λ none. let empty = ap (λ (l : List Event). nat_eq (length l) 0) none in cc)) h

commit-at : (schema : Schema) (es : List Event) (ess : List (List Event)) (old : CoreState) (n : ℕ) (job : Job) (place : Option ℕ) → place_of old.timeline job ≡ place → IsRunSoFar schema es ess old
    → Follows schema es ess (Commit n) (told (λ (a : ℕ × CoreState). (Committed a.0, a.1)) old (passed Timeline (commit_at old.timeline job place) >>= with_answer old))
commit-at schema es ess old n job None is h = refused-run schema es ess old (Commit n) Stale h
commit-at schema es ess old n job (Some place) is h =
    told-if (Follows schema es ess (Commit n)) (λ (a : ℕ × CoreState). (Committed a.0, a.1)) (with_answer old) old _ CommitsFull _ (λ _. refused-run schema es ess old (Commit n) CommitsFull h)
    (λ _. recut schema es ess old (committed old.timeline job place) refl refl (cuts-after_merge old.timeline job place h.are_cuts (place_of-stands old.timeline job place is)) h)

pub commit-run : (schema : Schema) (es : List Event) (ess : List (List Event)) (old : CoreState) (n : ℕ) (job : Job) → IsRunSoFar schema es ess old → Follows schema es ess (Commit n) (told (λ (a : ℕ × CoreState). (Committed a.0, a.1)) old (commit_job job old))
commit-run schema es ess old n job h =
    told-worked (Follows schema es ess (Commit n)) (λ (a : ℕ × CoreState). (Committed a.0, a.1)) (with_answer old) old (image_fits old job) (joined_fragment old.timeline.schema job) (commit_at old.timeline job (place_of old.timeline job)) (refused-with schema es ess old (Commit n) 59 h)
    (commit-at schema es ess old n job (place_of old.timeline job) refl h)

-- what is pinned now
pub pin-now : (schema : Schema) (es : List Event) (ess : List (List Event)) (c : CoreState) → IsRunSoFar schema es ess c → IsPin schema es (pinned c.timeline)
pin-now schema es ess c h =
    let t : State = c.timeline in
    record {
      schema_is = h.schema_is;
      stream_is = h.stream_is;
      cuts = t.cuts;
      are_cuts = coe 0 1 (i. AreCuts (h.schema_is i) (h.stream_is i) t.cuts) h.are_cuts;
      ranges_are = λ i. infos (h.schema_is i) (h.stream_is i) t.cuts;
    }

pub pin-run : (schema : Schema) (es : List Event) (ess : List (List Event)) (old : CoreState) → IsRunSoFar schema es ess old → IsRunSoFar schema (es ++ []) (ess ++ es ∷ []) (with_pin (pinned old.timeline) old)
pin-run schema es ess old h = record {
  schema_is = h.schema_is;
  stream_is = h.stream_is ∙ sym (append-nil es);
  are_cuts = h.are_cuts;
  pins = pins-push schema ess old.pins es (pinned old.timeline) h.pins (pin-now schema es ess old h);
}

-- nothing but the jobs changes
pub as-before : (schema : Schema) (es : List Event) (ess : List (List Event)) (c : CoreState) → IsRunSoFar schema es ess c → IsRunSoFar schema (es ++ []) (ess ++ []) c
as-before schema es ess c h = stays schema es ess c [] [] refl refl h

pub taken-run : (schema : Schema) (es : List Event) (ess : List (List Event)) (old : CoreState) (s : Step) → 1 ≤ schema.limits.max_rows_in_memory → IsRunSoFar schema es ess old → Follows schema es ess s (taken old s)
taken-run schema es ess old (Accept e) least h =
    told-if (Follows schema es ess (Accept e)) (λ (a : ℕ × CoreState). (Accepted a.0, a.1)) (with_answer old) old _ StreamFull _ (λ _. refused-run schema es ess old (Accept e) StreamFull h) (λ _. accept-run schema es ess old e least h)
taken-run schema es ess old (Seal k) least h =
    told-if (Follows schema es ess (Seal k)) (λ new. (Sealed, new)) (λ t. Ok (with_timeline t old)) old _ NothingToSeal _ (λ _. refused-run schema es ess old (Seal k) NothingToSeal h) (λ some. seal-run schema es ess old k some h)
taken-run schema es ess old (Plan k lo hi purpose) least h =
    told-unless (Follows schema es ess (Plan k lo hi purpose)) (λ (a : ℕ × CoreState). (JobGiven a.0, a.1)) (λ job. Ok (length old.jobs, with_job job old)) old _ NoSuchRange _ (refused-run schema es ess old (Plan k lo hi purpose) NoSuchRange h)
    (as-before schema es ess _ (record { schema_is = h.schema_is; stream_is = h.stream_is; are_cuts = h.are_cuts; pins = h.pins }))
taken-run schema es ess old (Commit n) least h =
    told-with (Follows schema es ess (Commit n)) (λ (a : ℕ × CoreState). (Committed a.0, a.1)) (λ job. commit_job job old) old (slice_get old.jobs n) (as-before schema es ess old h) (λ job. commit-run schema es ess old n job h)
taken-run schema es ess old Pin least h = pin-run schema es ess old h
taken-run schema es ess old (Ask n q) least h =
    told-given (Follows schema es ess (Ask n q)) (λ p. (reply_to (answer_over (asked q) p), old)) old (slice_get old.pins n) (as-before schema es ess old h) (λ p. as-before schema es ess old h)
taken-run schema es ess old (Audit n q) least h =
    told-audited (Follows schema es ess (Audit n q)) (λ p. (reply_to (raw_answer p.schema (asked q) p.stream), old)) old (asked q) (slice_get old.pins n) (as-before schema es ess old h) (λ p. as-before schema es ess old h)

pub moves-run : (schema : Schema) (es : List Event) (ess : List (List Event)) (old new : CoreState) (s : Step) (r : Reply) → 1 ≤ schema.limits.max_rows_in_memory → Moves old s r new → IsRunSoFar schema es ess old → IsRunSoFar schema (es ++ accepted_by s r) (ess ++ pinned_by es s r) new
moves-run schema es ess old new s r least (inl h) g = coe 0 1 (i. Follows schema es ess s ((sym h.0) i, (sym h.1) i)) (taken-run schema es ess old s least g)
moves-run schema es ess old new s r least (inr h) g = coe 0 1 (i. Follows schema es ess s ((sym h.0) i, (sym h.1) i)) (refused-run schema es ess old s NoMemory g)

-- ---- the answers

-- a matching query is no scan
no_scan : (scans : Bool) (rest : Bool) → (not scans && rest) ≡ true → scans ≡ false
no_scan true rest h = absurd (cc)
no_scan false rest h = refl

pub groups-matching : (q : Asked) (p : Pinned) → is_matching q ≡ true → answer_over q p ≡ answer q (rows_of p)
groups-matching q p matches = ap (λ (b : Bool). cond b (Ok (scan_over q p)) (answer q (rows_of p))) (no_scan (is_scan q.shape) (not q.rollup || all_match q.aggregations) matches)

-- the answer on a snapshot
pub pin-raw : (schema : Schema) (es : List Event) (p : Pinned) (q : Asked) → IsPin schema es p → MadeFor schema q → is_matching q ≡ true → answer_over q p ≡ raw_answer schema q es
pin-raw schema es p q pin made matches =
    groups-matching q p matches ∙
    ap (answer q) (λ i. rows_over (pin.schema_is i) (pin.stream_is i) (pin.ranges_are i)) ∙ answer-cut_rows schema q es pin.cuts pin.are_cuts made matches

ask-raw : (schema : Schema) (ess : List (List Event)) (ps : List Pinned) (n : ℕ) (q : Asked) (c : CoreState) → ArePins schema ess ps → MadeFor schema q → is_matching q ≡ true
    → IsRaw schema q (slice_get ess n) (told (λ p. (reply_to (answer_over q p), c)) c (given (slice_get ps n))).0
ask-raw schema [] [] n q c pins made matches = inl refl
ask-raw schema [] (p ∷ ps) n q c pins made matches = absurd pins
ask-raw schema (es ∷ ess) [] n q c pins made matches = absurd pins
ask-raw schema (es ∷ ess) (p ∷ ps) zero q c pins made matches = inl (ap reply_to (pin-raw schema es p q pins.0 made matches))
ask-raw schema (es ∷ ess) (p ∷ ps) (suc n) q c pins made matches = ask-raw schema ess ps n q c pins.1 made matches

no-memory : (schema : Schema) (q : Asked) (o : Option (List Event)) (r : Reply) → r ≡ Refused 0 → IsRaw schema q o r
no-memory schema q None r is = inr is
no-memory schema q (Some es) r is = inr is

pub step-raw : (schema : Schema) (es : List Event) (ess : List (List Event)) (old new : CoreState) (s : Step) (r : Reply) → FitsStep schema s → Moves old s r new → IsRunSoFar schema es ess old → AnswersRaw schema ess s r
step-raw schema es ess old new (Accept e) r fits h g = tt
step-raw schema es ess old new (Seal k) r fits h g = tt
step-raw schema es ess old new (Plan k lo hi purpose) r fits h g = tt
step-raw schema es ess old new (Commit n) r fits h g = tt
step-raw schema es ess old new Pin r fits h g = tt
step-raw schema es ess old new (Ask n q) r fits (inl h) g = λ matches. subst (IsRaw schema (asked q) (slice_get ess n)) (sym h.0) (ask-raw schema ess old.pins n (asked q) old g.pins fits matches)
step-raw schema es ess old new (Ask n q) r fits (inr h) g = λ matches. no-memory schema (asked q) (slice_get ess n) r h.0
step-raw schema es ess old new (Audit n q) r fits h g = tt

pub run-raw : (schema : Schema) (es : List Event) (ess : List (List Event)) (old new : CoreState) (ss : List Step) (rs : List Reply) → 1 ≤ schema.limits.max_rows_in_memory → AllByRecursion (FitsStep schema) ss → RunFrom old ss rs new → IsRunSoFar schema es ess old → AnswersFrom schema es ess ss rs
run-raw schema es ess old new [] [] least fits h g = tt
run-raw schema es ess old new [] (r ∷ rs) least fits h g = absurd h
run-raw schema es ess old new (s ∷ ss) [] least fits h g = absurd h
run-raw schema es ess old new (s ∷ ss) (r ∷ rs) least fits h g = (
  step-raw schema es ess old h.0 s r fits.0 h.1 g,
  run-raw schema (es ++ accepted_by s r) (ess ++ pinned_by es s r) h.0 new ss rs least fits.1 h.2 (moves-run schema es ess old h.0 s r least h.1 g),
)

-- a run from a timeline without events
pub answers-raw : (schema : Schema) (new : CoreState) (ss : List Step) (rs : List Reply) → IsWellFormed schema → AllByRecursion (FitsStep schema) ss → RunFrom (empty_core schema) ss rs new → AnswersAreRaw schema ss rs
unfolding values_onto
answers-raw schema new ss rs formed fits h =
    run-raw schema [] [] (empty_core schema) new ss rs formed.limits.some_rows fits h
    (record { schema_is = refl; stream_is = refl; are_cuts = record { chunks = refl; tiled = tt }; pins = tt })
