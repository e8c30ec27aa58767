use Rattle.std.proofs.Common.{◌≡◌, ◌∙◌, sym, ap, subst, refl, ◌≤◌, Ok, map, take, drop, w64, arith, length, ◌-◌, ◌+◌, List}
use Rattle.std.proofs.lemmas.Int.{to_z-of_z}
use Rattle.std.proofs.lemmas.Result.{err_from_is_err_and}
use Rattle.dr_chunks.specs.declared.chunk.Chunk.{Chunk}
use Rattle.dr_chunks.specs.declared.sealed_range.SealedRange.{SealedRange}
use Rattle.dr_cuts.specs.State.{State, sealed_in}
use Rattle.dr_timeline.specs.Steps.{job_of}
use Rattle.dr_merge.specs.Joined.{IsJobOf}
use Rattle.dr_timeline.proofs.Working.{planned-works}
use Rattle.dr_chunks.specs.Held.{chunk_at, ranges_of}
use Rattle.dr_chunks.proofs.Places.{chunk_at-in, chunk_at-none}
use Rattle.dr_chunks.proofs.Changes.{sealed_in-cuts}
use Rattle.dr_timeline.proofs.Standing.{seen, shown-length, shown-serials, shown-inputs}
use Rattle.dr_timeline.proofs.Placing.{plan-ok, plan-none}
use Rattle.dr_timeline.proofs.timeline.Timeline.plan.Goals as goal
use Rattle.dr_timeline.proofs.timeline.Timeline.plan.Goals.{then-lo-hi-via-then-lo-hi, then-lo-hi-via-else-lo-hi+then-hi-sealed, After-as_slice-sealed, In_ok-job_over}

pub returns-in_default-clause-no_range : goal.returns-in_default-clause-no_range
returns-in_default-clause-no_range c =
    let t = c.self.inside in
    let found = sym (rw (to_z-of_z w64 c.args.chunk c.ranges.chunk) at c.in_default.ensures) in
    let none : length (sealed_in c.args.chunk c.args.self.now.cuts) ≡ 0 =
    ap (λ (s : State). length (sealed_in c.args.chunk s.cuts)) (sym c.self.view_is)
    ∙ ap (λ rs. length rs) (sealed_in-cuts t.spec t.chunks c.args.chunk ∙ ap ranges_of (chunk_at-none t.spec t.chunks c.args.chunk found)) in
    (λ h p. let lt = p.0 in let le = p.1 in absurd (omega arith), λ h. refl)

-- ---- the chunk

here : (c : After-as_slice-sealed) → chunk_at c.self.inside.spec c.args.chunk c.self.inside.chunks ≡ c.in-Some.there.now
here c =
    let found = sym (rw (to_z-of_z w64 c.args.chunk c.ranges.chunk) at c.in-Some.ensures) in
    chunk_at-in c.self.inside.spec c.self.inside.chunks c.args.chunk c.in-Some.there.now found

ranges : (c : After-as_slice-sealed) → c.as_slice-sealed.result.now ≡ c.in-Some.there.now.sealed
ranges c = c.as_slice-sealed.ensures

count : (c : After-as_slice-sealed) → length (sealed_in c.args.chunk c.args.self.now.cuts) ≡ length c.as_slice-sealed.result.now
count c =
    let t = c.self.inside in
    ap (λ (s : State). length (sealed_in c.args.chunk s.cuts)) (sym c.self.view_is)
    ∙ shown-length t.spec t.stream.items t.chunks (t.seals + t.commits) t.commits t.unparseable t.thrown_away c.args.chunk c.in-Some.there.now (here c)
    ∙ ap (λ (ss : List SealedRange). length ss) (sym (ranges c))

-- ---- it has no such ranges

pub returns-then-lo-hi-clause-no_range : goal.returns-then-lo-hi-clause-no_range
returns-then-lo-hi-clause-no_range c =
    let many = count (goal.at.returns-then-lo-hi-clause-no_range c).After-as_slice-sealed in (
      λ h p. let lt = p.0 in let le = p.1 in elim c.then-lo-hi.branch [
        | then-lo-hi-via-then-lo-hi w ↦ let test = w.if-lo-hi.true in absurd (omega arith)
        | then-lo-hi-via-else-lo-hi+then-hi-sealed w ↦ let test = w.if-hi-sealed.true in absurd (omega arith)
      ],
      λ h. refl,
    )

-- ---- it has them

pub returns-in_err-job_over-clause-no_range : goal.returns-in_err-job_over-clause-no_range
returns-in_err-job_over-clause-no_range c =
    let many = count (goal.at.returns-in_err-job_over-clause-no_range c).After-as_slice-sealed in
    let lt = c.if-lo-hi.false in
    let le = c.if-hi-sealed.false in
    let p = err_from_is_err_and c.from_residual.result c.from_residual.ensures.1 in
    rw (p.1, p.2) (λ h. cc, λ h. absurd (h (omega arith, omega arith)))

pub returns-clause-no_range : goal.returns-clause-no_range
returns-clause-no_range c =
    let many = count (goal.at.returns-clause-no_range c).After-as_slice-sealed in
    let lt = c.if-lo-hi.false in
    let le = c.if-hi-sealed.false in
    (λ h. cc, λ h. absurd (h (omega arith, omega arith)))

-- what a contract sees of the timeline
abbrev shown : In_ok-job_over → State
shown c =
    let t = c.self.inside in
    seen t.spec t.stream.items t.chunks (t.seals + t.commits) t.commits t.unparseable t.thrown_away

planned : (c : In_ok-job_over) → chunk_at c.self.inside.spec c.args.chunk c.self.inside.chunks ≡ c.in-Some.there.now → c.as_slice-sealed.result.now ≡ c.in-Some.there.now.sealed
    → c.in_ok-job_over.field-0 ≡ job_of (shown c) c.args.chunk c.args.lo c.args.hi c.args.purpose
planned c there same =
    let t = c.self.inside in
    let k = c.self.invariant in
    let x : Chunk = c.in-Some.there.now in
    let lo = c.args.lo in
    let many = c.args.hi - c.args.lo in
    let slice : take many (drop lo c.as_slice-sealed.result.now) ≡ take many (drop lo x.sealed) = ap (λ (ss : List SealedRange). take many (drop lo ss)) same in
    let serials = ap (map (λ (s : SealedRange). s.serial)) slice ∙ sym (shown-serials t.spec t.stream.items t.chunks (t.seals + t.commits) t.commits t.unparseable t.thrown_away c.args.chunk x lo many there) in
    let inputs = ap (map (λ (s : SealedRange). s.fragment)) slice ∙ sym (shown-inputs t.spec t.stream.items t.chunks (t.seals + t.commits) t.commits t.unparseable t.thrown_away c.args.chunk x lo many there k.starts k.each) in
    rw (to_z-of_z w64 c.args.chunk c.ranges.chunk) at c.in_ok-job_over.ensures ∙ (λ i. record { chunk = c.args.chunk; serials = serials i; inputs = inputs i; purpose = c.args.purpose })

pub returns-clause-job : goal.returns-clause-job
returns-clause-job c =
    let sealed = (goal.at.returns-clause-job c).After-as_slice-sealed in
    planned (goal.at.returns-clause-job c).In_ok-job_over (here sealed) (ranges sealed) ∙ ap (λ (s : State). job_of s c.args.chunk c.args.lo c.args.hi c.args.purpose) c.self.view_is

pub returns-in_default-clause-step : goal.returns-in_default-clause-step
returns-in_default-clause-step c = λ _. plan-none c.args.self.now c.args.chunk c.args.lo c.args.hi c.args.purpose ((returns-in_default-clause-no_range c).0 refl)

pub returns-then-lo-hi-clause-step : goal.returns-then-lo-hi-clause-step
returns-then-lo-hi-clause-step c = λ _. plan-none c.args.self.now c.args.chunk c.args.lo c.args.hi c.args.purpose ((returns-then-lo-hi-clause-no_range c).0 refl)

pub returns-clause-step : goal.returns-clause-step
returns-clause-step c =
    let many = count (goal.at.returns-clause-step c).After-as_slice-sealed in
    let lt = c.if-lo-hi.false in
    let le = c.if-hi-sealed.false in
    plan-ok c.args.self.now c.args.chunk c.args.lo c.args.hi c.args.purpose (omega arith) (omega arith) ∙ ap Ok (sym (returns-clause-job c))

pub returns-clause-workable : goal.returns-clause-workable
returns-clause-workable c =
    let t = c.self.inside in
    let at_chunk = (goal.at.returns-clause-workable c).After-as_slice-sealed in
    let many = count at_chunk in
    let lt = c.if-lo-hi.false in
    let le = c.if-hi-sealed.false in
    let same : c.in_ok-job_over.field-0 ≡ job_of (shown (goal.at.returns-clause-workable c).In_ok-job_over) c.args.chunk c.args.lo c.args.hi c.args.purpose = planned (goal.at.returns-clause-workable c).In_ok-job_over (here at_chunk) (ranges at_chunk) in
    let within : c.args.hi ≤ length (sealed_in c.args.chunk (shown (goal.at.returns-clause-workable c).In_ok-job_over).cuts) =
    subst (λ n. c.args.hi ≤ n) (sym (ap (λ (s : State). length (sealed_in c.args.chunk s.cuts)) c.self.view_is)) (omega arith) in
    let works = planned-works t.spec t.stream.items t.chunks t.seals t.commits (t.seals + t.commits) t.unparseable t.thrown_away c.args.chunk c.args.lo c.args.hi c.args.purpose c.self.invariant (omega arith) within in
    subst (λ (s : State). IsJobOf s.schema c.in_ok-job_over.field-0) c.self.view_is (subst (IsJobOf t.spec) (sym same) works)
