-- The place at which the ranges of a job stand, and what a commit is there.
use Rattle.std.proofs.Common.{◌≡◌, ◌∙◌, sym, refl, ap, ℤ, ℕ, zero, suc, ◌+◌, ◌<◌, ◌≤◌, Bool, true, false, cond, ◌&&◌, List, [], ◌∷◌, length, map, Some, None, Ok, Err, arith, rules, tests}
use Rattle.std.specs.Prelude.{nat_eq, nat_lt, nat_le}
use Rattle.std.specs.Bool.{Decides}
use Rattle.std.specs.Ordering.{int_eq}
use Rattle.std.specs.Cmp.{unsigned_Decides}
use Rattle.std.specs.Cmp.Lexicographic.{pointwise}
use Rattle.std.proofs.lemmas.Bool.Decides.{Decides-int_eq, Decides-ltb}
use Rattle.std.proofs.lemmas.Slice.Eq.{slice_eq-Decides}
use Rattle.dr_base.proofs.Equality.{both, rows_decide}
use Rattle.dr_base.specs.declared.event.Event.{Event}
use Rattle.dr_fragment.specs.declared.fragment.Fragment.{Fragment}
use Rattle.dr_merge.specs.declared.job.Job.{Job}
use Rattle.dr_merge.specs.declared.purpose.Purpose.{Purpose}
use Rattle.dr_timeline.specs.declared.timeline_error.TimelineError.TheVariants.{NothingToSeal, NoSuchRange, Stale, CommitsFull}
use Rattle.dr_cuts.specs.State.{State, sealed_in}
use Rattle.dr_timeline.specs.Steps.{accepted, sealed_at, open_in, ranges_at, job_of, StandsAt, Commits}
use Rattle.dr_chunks.specs.Ranges.{fragment_of}
use Rattle.dr_timeline.specs.Standing.{same_row, same_fragment, stands_at, first_place, place_of}
use Rattle.dr_timeline.specs.Stepping.{accept, seal, plan, commit}

-- ---- what the tests say

at_most : (a b : ℕ) → Decides (nat_le a b) (a ≤ b)
at_most a b = (λ h. search (rules, tests), λ h. search (rules, tests))

fragments_decide : (f g : Fragment) → Decides (same_fragment f g) (f ≡ g)
fragments_decide f g =
    both (int_eq f.chunk g.chunk) (nat_eq f.from g.from && (nat_eq f.to g.to && pointwise same_row f.rows g.rows)) (Decides-int_eq f.chunk g.chunk)
    (both (nat_eq f.from g.from) (nat_eq f.to g.to && pointwise same_row f.rows g.rows) (unsigned_Decides f.from g.from)
    (both (nat_eq f.to g.to) (pointwise same_row f.rows g.rows) (unsigned_Decides f.to g.to) (slice_eq-Decides rows_decide f.rows g.rows (pointwise same_row f.rows g.rows) refl)
    (λ t r. (t, r)) (λ h. h))
    (λ s h. (s, h)) (λ h. h))
    (λ k h. λ i. record { chunk = k i; from = h.0 i; to = h.1.0 i; rows = h.1.1 i })
    (λ h. (ap (λ (x : Fragment). x.chunk) h, (ap (λ (x : Fragment). x.from) h, (ap (λ (x : Fragment). x.to) h, ap (λ (x : Fragment). x.rows) h))))

pub stands_decide : (s : State) (job : Job) (place : ℕ) → Decides (stands_at s job place) (StandsAt s job place)
stands_decide s job place =
    let count : ℕ = length job.inputs in
    let serials : List ℕ = map (λ r. r.serial) (ranges_at s job.chunk place count) in
    let inputs : List Fragment = map (fragment_of s.schema s.stream job.chunk) (ranges_at s job.chunk place count) in
    both (nat_lt 0 count && nat_le (place + count) (length (sealed_in job.chunk s.cuts))) (pointwise nat_eq serials job.serials && pointwise same_fragment inputs job.inputs)
    (both (nat_lt 0 count) (nat_le (place + count) (length (sealed_in job.chunk s.cuts))) (Decides-ltb 0 count) (at_most (place + count) (length (sealed_in job.chunk s.cuts))) (λ a b. (a, b)) (λ h. h))
    (both (pointwise nat_eq serials job.serials) (pointwise same_fragment inputs job.inputs)
    (slice_eq-Decides unsigned_Decides serials job.serials (pointwise nat_eq serials job.serials) refl)
    (slice_eq-Decides fragments_decide inputs job.inputs (pointwise same_fragment inputs job.inputs) refl)
    (λ a b. (a, b)) (λ h. h))
    (λ a b. record { some = a.0; within = a.1; serials = b.0; inputs = b.1 })
    (λ h. ((h.some, h.within), (h.serials, h.inputs)))

refuted : {P : Type 0} (b : Bool) → Decides b P → (P → ⊥) → b ≡ false
refuted true decides none = absurd (none (decides.0 refl))
refuted false decides none = refl

-- ---- the search

found_at : (test : ℕ → Bool) (place k count : ℕ) → k < count → test (place + k) ≡ true → ((e : ℕ) → e < k → test (place + e) ≡ false) → first_place test place count ≡ Some (place + k)
found_at test place k zero lt is earlier = absurd (omega arith)
found_at test place zero (suc count) lt is earlier =
    let here : place + 0 ≡ place = omega arith in
    rw (ap test (sym here) ∙ is, here) refl
found_at test place (suc k) (suc count) lt is earlier =
    let here : place + 0 ≡ place = omega arith in
    let next : (e : ℕ) → place + 1 + e ≡ place + suc e = λ e. omega arith in
    rw (ap test (sym here) ∙ earlier 0 (omega arith))
    (found_at test (place + 1) k count (omega arith) (ap test (next k) ∙ is) (λ e below. ap test (next e) ∙ earlier (suc e) (omega arith)) ∙ ap Some (next k))

found_none : (test : ℕ → Bool) (place count : ℕ) → ((e : ℕ) → test e ≡ false) → first_place test place count ≡ None
found_none test place zero each = refl
found_none test place (suc count) each = rw (each place) (found_none test (place + 1) count each)

found_passes : (test : ℕ → Bool) (place count p : ℕ) → first_place test place count ≡ Some p → test p ≡ true
found_passes test place zero p is = cc
found_passes test place (suc count) p is =
    elim (test place) as (λ b. test place ≡ b → cond b (Some place) (first_place test (place + 1) count) ≡ Some p → test p ≡ true) [
      | true ↦ λ passes here. let same : place ≡ p = cc in ap test (sym same) ∙ passes
      | false ↦ λ passes later. found_passes test (place + 1) count p later
    ] refl is

-- ---- a commit

place-first : (s : State) (job : Job) (place : ℕ) → StandsAt s job place → ((e : ℕ) → e < place → StandsAt s job e → ⊥) → place_of s job ≡ Some place
place-first s job place stands first =
    let some = stands.some in
    let within = stands.within in
    let from_zero : (e : ℕ) → 0 + e ≡ e = λ e. omega arith in
    found_at (stands_at s job) 0 place (length (sealed_in job.chunk s.cuts)) (omega arith) (ap (stands_at s job) (from_zero place) ∙ (stands_decide s job place).1 stands)
    (λ e below. ap (stands_at s job) (from_zero e) ∙ refuted (stands_at s job e) (stands_decide s job e) (first e below))
    ∙ ap Some (from_zero place)

pub place_of-stands : (s : State) (job : Job) (place : ℕ) → place_of s job ≡ Some place → StandsAt s job place
place_of-stands s job place is = (stands_decide s job place).0 (found_passes (stands_at s job) 0 (length (sealed_in job.chunk s.cuts)) place is)

pub commit-stale : (s : State) (job : Job) → ((place : ℕ) → StandsAt s job place → ⊥) → commit s job ≡ Err Stale
commit-stale s job none =
    rw (found_none (stands_at s job) 0 (length (sealed_in job.chunk s.cuts)) (λ e. refuted (stands_at s job e) (stands_decide s job e) (none e))) refl

pub commit-full : (s : State) (job : Job) (place : ℕ) → StandsAt s job place → ((e : ℕ) → e < place → StandsAt s job e → ⊥) → s.schema.limits.max_commits ≤ s.commits → commit s job ≡ Err CommitsFull
commit-full s job place stands first full =
    let test : nat_le s.schema.limits.max_commits s.commits ≡ true = search (rules, tests) in
    rw (place-first s job place stands first, test) refl

pub commit-ok : (s new : State) (job : Job) (version : ℕ) → Commits s job version new → s.commits < s.schema.limits.max_commits → commit s job ≡ Ok (version, new)
commit-ok s new job version commits room =
    let test : nat_le s.schema.limits.max_commits s.commits ≡ false = search (rules, tests) in
    rw (place-first s job commits.place commits.stands commits.first, test, commits.version_is, commits.new_is) refl

-- ---- a plan

range_test : (lo hi count : ℕ) → lo < hi → hi ≤ count → (nat_lt lo hi && nat_le hi count) ≡ true
range_test lo hi count lt le = let a : nat_lt lo hi ≡ true = search (rules, tests) in let b : nat_le hi count ≡ true = search (rules, tests) in rw (a, b) refl

pub plan-ok : (s : State) (k : ℤ) (lo hi : ℕ) (purpose : Purpose) → lo < hi → hi ≤ length (sealed_in k s.cuts) → plan s k lo hi purpose ≡ Ok (job_of s k lo hi purpose)
plan-ok s k lo hi purpose lt le = rw (range_test lo hi (length (sealed_in k s.cuts)) lt le) refl

range_decides : (lo hi count : ℕ) → Decides (nat_lt lo hi && nat_le hi count) ((lo < hi) × (hi ≤ count))
range_decides lo hi count = both (nat_lt lo hi) (nat_le hi count) (Decides-ltb lo hi) (at_most hi count) (λ a b. (a, b)) (λ h. h)

pub plan-none : (s : State) (k : ℤ) (lo hi : ℕ) (purpose : Purpose) → ((lo < hi) × (hi ≤ length (sealed_in k s.cuts)) → ⊥) → plan s k lo hi purpose ≡ Err NoSuchRange
plan-none s k lo hi purpose none = rw (refuted (nat_lt lo hi && nat_le hi (length (sealed_in k s.cuts))) (range_decides lo hi (length (sealed_in k s.cuts))) none) refl

-- ---- accepting and sealing

pub accept-ok : (s : State) (e : Event) → length s.stream < s.schema.limits.max_retained → accept s e ≡ Ok (length s.stream, accepted s e)
accept-ok s e room = let test : nat_le s.schema.limits.max_retained (length s.stream) ≡ false = search (rules, tests) in rw test refl

some-length : (es : List Event) → (es ≡ [] → ⊥) → nat_eq (length es) 0 ≡ false
some-length [] some = absurd (some refl)
some-length (e ∷ es) some = search (rules, tests)

pub seal-ok : (s : State) (k : ℤ) → (open_in s k ≡ [] → ⊥) → seal s k ≡ Ok (sealed_at k s)
seal-ok s k some = rw (some-length (open_in s k) some) refl

pub seal-none : (s : State) (k : ℤ) → open_in s k ≡ [] → seal s k ≡ Err NothingToSeal
seal-none s k none = rw none refl
