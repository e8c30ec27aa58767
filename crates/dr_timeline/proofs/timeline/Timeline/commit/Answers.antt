use Rattle.std.proofs.Common.{◌≡◌, ◌∙◌, sym, ap, refl, Some, subst, map, take, drop, ℕ, w64, arith, rules, FitsSigned, length, ◌<◌, ◌≤◌, ◌-◌, ◌+◌, List}
use Rattle.std.proofs.lemmas.Int.{to_z-of_z}
use Rattle.std.proofs.lemmas.Result.{err_from_is_err_and}
use Rattle.dr_schema.specs.declared.schema.Schema.{Schema}
use Rattle.dr_schema.specs.declared.limits.Limits.{Limits}
use Rattle.dr_chunks.specs.declared.chunk.Chunk.{Chunk}
use Rattle.dr_chunks.specs.declared.sealed_range.SealedRange.{SealedRange}
use Rattle.dr_cuts.specs.State.{State, sealed_in}
use Rattle.dr_timeline.specs.Steps.{StandsAt, publications_after, version_for, joined_range, committed}
use Rattle.dr_merge.specs.Joined.{joined_fragment}
use Rattle.dr_chunks.specs.Held.{chunk_at, chunk_in, at_start, with_range, range_of, ranges_of}
use Rattle.dr_timeline.specs.Kept.{StandsIn, IsNumbered}
use Rattle.dr_timeline.proofs.Numbering.{numbered-chunk_at}
use Rattle.dr_timeline.proofs.Keeping.{rising-starts}
use Rattle.dr_chunks.proofs.Places.{chunk_at-in, chunk_at-none, place-found}
use Rattle.dr_chunks.proofs.Changes.{sealed_in-cuts}
use Rattle.dr_timeline.proofs.Standing.{seen, stands-at, stands-in, keeps-merged, state-merged, shown-part, shown-publications}
use Rattle.dr_timeline.proofs.Placing.{commit-stale, commit-full, commit-ok}
use Rattle.dr_timeline.proofs.timeline.Timeline.commit.Goals as goal
use Rattle.dr_timeline.proofs.timeline.Timeline.commit.Goals.{After-as_slice-sealed, In-Some-place_of_job, After-version_for-version, After-replace}

-- ---- there is no such chunk

pub returns-in_default-clause-stale : goal.returns-in_default-clause-stale
returns-in_default-clause-stale c =
    let t = c.self.inside in
    let fits : FitsSigned w64 c.args.job.now.chunk = search rules in
    let found = sym (rw (to_z-of_z w64 c.args.job.now.chunk fits) at c.in_default.ensures) in
    let none : length (sealed_in c.args.job.now.chunk c.args.self.now.cuts) ≡ 0 =
    ap (λ (s : State). length (sealed_in c.args.job.now.chunk s.cuts)) (sym c.self.view_is)
    ∙ ap (λ rs. length rs) (sealed_in-cuts t.spec t.chunks c.args.job.now.chunk ∙ ap ranges_of (chunk_at-none t.spec t.chunks c.args.job.now.chunk found)) in
    (λ h p stands. let some = stands.some in let within = stands.within in absurd (omega arith), λ h. refl)

pub returns-in_default-clause-step : goal.returns-in_default-clause-step
returns-in_default-clause-step c = λ _. commit-stale c.args.self.now c.args.job.now ((returns-in_default-clause-stale c).0 refl)

pub returns-in_default-clause-full : goal.returns-in_default-clause-full
returns-in_default-clause-full c =
    let stale = (returns-in_default-clause-stale c).0 refl in
    (λ h. cc, λ h. absurd (stale h.0.0 h.0.1))

-- ---- the chunk of the job

found : (c : After-as_slice-sealed) → chunk_in c.args.job.now.chunk c.self.inside.chunks ≡ Some c.in-Some.there.now
found c =
    let fits : FitsSigned w64 c.args.job.now.chunk = search rules in
    sym (rw (to_z-of_z w64 c.args.job.now.chunk fits) at c.in-Some.ensures)

there : (c : After-as_slice-sealed) → chunk_at c.self.inside.spec c.args.job.now.chunk c.self.inside.chunks ≡ c.in-Some.there.now
there c = chunk_at-in c.self.inside.spec c.self.inside.chunks c.args.job.now.chunk c.in-Some.there.now (found c)

ranges : (c : After-as_slice-sealed) → c.as_slice-sealed.result.now ≡ c.in-Some.there.now.sealed
ranges c = c.as_slice-sealed.ensures

-- where the job stands for a contract, it stands among the sealed ranges of the chunk
stands_there : (c : After-as_slice-sealed) (place : ℕ) → StandsAt c.args.self.now c.args.job.now place → StandsIn c.as_slice-sealed.result.now c.args.job.now place
stands_there c place stands =
    let t = c.self.inside in
    subst (λ (ss : List SealedRange). StandsIn ss c.args.job.now place) (sym (ranges c)) (stands-in t.spec t.stream.items t.chunks (t.seals + t.commits) t.commits t.unparseable t.thrown_away c.args.job.now c.in-Some.there.now place (there c) c.self.invariant.starts c.self.invariant.each
    (subst (λ (s : State). StandsAt s c.args.job.now place) (sym c.self.view_is) stands))

pub returns-in_default-place_of_job-clause-stale : goal.returns-in_default-place_of_job-clause-stale
returns-in_default-place_of_job-clause-stale c =
    (λ h place stands. c.in_default-place_of_job.ensures.none refl place (stands_there (goal.at.returns-in_default-place_of_job-clause-stale c).After-as_slice-sealed place stands), λ h. refl)

pub returns-in_default-place_of_job-clause-step : goal.returns-in_default-place_of_job-clause-step
returns-in_default-place_of_job-clause-step c = λ _. commit-stale c.args.self.now c.args.job.now ((returns-in_default-place_of_job-clause-stale c).0 refl)

pub returns-in_default-place_of_job-clause-full : goal.returns-in_default-place_of_job-clause-full
returns-in_default-place_of_job-clause-full c =
    let stale = (returns-in_default-place_of_job-clause-stale c).0 refl in
    (λ h. cc, λ h. absurd (stale h.0.0 h.0.1))

-- ---- its place

there_now : (c : In-Some-place_of_job) → chunk_at c.self.inside.spec c.args.job.now.chunk c.self.inside.chunks ≡ c.in-Some.there.now
there_now c =
    let fits : FitsSigned w64 c.args.job.now.chunk = search rules in
    chunk_at-in c.self.inside.spec c.self.inside.chunks c.args.job.now.chunk c.in-Some.there.now (sym (rw (to_z-of_z w64 c.args.job.now.chunk fits) at c.in-Some.ensures))

stands_in : (c : In-Some-place_of_job) → StandsIn c.in-Some.there.now.sealed c.args.job.now c.in-Some-place_of_job.place
stands_in c = subst (λ (ss : List SealedRange). StandsIn ss c.args.job.now c.in-Some-place_of_job.place) c.as_slice-sealed.ensures c.in-Some-place_of_job.ensures.found

stands : (c : In-Some-place_of_job) → StandsAt c.args.self.now c.args.job.now c.in-Some-place_of_job.place
stands c =
    let t = c.self.inside in
    subst (λ (s : State). StandsAt s c.args.job.now c.in-Some-place_of_job.place) c.self.view_is
    (stands-at t.spec t.stream.items t.chunks (t.seals + t.commits) t.commits t.unparseable t.thrown_away c.args.job.now c.in-Some.there.now c.in-Some-place_of_job.place (there_now c) c.self.invariant.starts c.self.invariant.each (stands_in c))

first : (c : In-Some-place_of_job) (e : ℕ) → e < c.in-Some-place_of_job.place → StandsAt c.args.self.now c.args.job.now e → ⊥
first c e below at_e =
    let t = c.self.inside in
    let in_chunk = stands-in t.spec t.stream.items t.chunks (t.seals + t.commits) t.commits t.unparseable t.thrown_away c.args.job.now c.in-Some.there.now e (there_now c) c.self.invariant.starts c.self.invariant.each
    (subst (λ (s : State). StandsAt s c.args.job.now e) (sym c.self.view_is) at_e) in
    c.in-Some-place_of_job.ensures.first e below (subst (λ (ss : List SealedRange). StandsIn ss c.args.job.now e) (sym c.as_slice-sealed.ensures) in_chunk)

-- ---- as many commits as the spec allows

pub returns-then-self-limits-clause-stale : goal.returns-then-self-limits-clause-stale
returns-then-self-limits-clause-stale c = (λ h. cc, λ h. absurd (h c.in-Some-place_of_job.place (stands (goal.at.returns-then-self-limits-clause-stale c).In-Some-place_of_job)))

pub returns-then-self-limits-clause-full : goal.returns-then-self-limits-clause-full
returns-then-self-limits-clause-full c =
    let most : c.limits-limits.result.max_commits ≡ c.self.inside.spec.limits.max_commits = ap (λ (l : Limits). l.max_commits) c.limits-limits.ensures ∙ ap (λ (x : Schema). x.limits.max_commits) c.schema.ensures.value in
    let full : c.self.inside.spec.limits.max_commits ≤ c.self.inside.commits = omega (arith, most, c.if-self-limits.true) in (
      λ h. ((c.in-Some-place_of_job.place, stands (goal.at.returns-then-self-limits-clause-full c).In-Some-place_of_job), subst (λ (s : State). s.schema.limits.max_commits ≤ s.commits) c.self.view_is full),
      λ h. refl,
    )

pub returns-then-self-limits-clause-step : goal.returns-then-self-limits-clause-step
returns-then-self-limits-clause-step c =
    let some = (goal.at.returns-then-self-limits-clause-step c).In-Some-place_of_job in
    λ _. commit-full c.args.self.now c.args.job.now c.in-Some-place_of_job.place (stands some) (first some) ((returns-then-self-limits-clause-full c).0 refl).1

-- ---- it is committed, where memory is found

pub returns-in_err-new-clause-stale : goal.returns-in_err-new-clause-stale
returns-in_err-new-clause-stale c =
    let p = err_from_is_err_and c.from_residual.result c.from_residual.ensures.1 in
    rw (p.1, p.2) (λ h. cc, λ h. absurd (h c.in-Some-place_of_job.place (stands (goal.at.returns-in_err-new-clause-stale c).In-Some-place_of_job)))

pub returns-clause-stale : goal.returns-clause-stale
returns-clause-stale c = (λ h. cc, λ h. absurd (h c.in-Some-place_of_job.place (stands (goal.at.returns-clause-stale c).In-Some-place_of_job)))

room : (c : After-replace) → c.self.inside.commits < c.self.inside.spec.limits.max_commits
room c =
    let most : c.limits-limits.result.max_commits ≡ c.self.inside.spec.limits.max_commits = ap (λ (l : Limits). l.max_commits) c.limits-limits.ensures ∙ ap (λ (x : Schema). x.limits.max_commits) c.schema.ensures.value in
    omega (arith, most, c.if-self-limits.false)

-- the chunk has fewer publications than a counter takes
pub publications_after-publications-requires : goal.publications_after-publications-requires
publications_after-publications-requires c =
    let t = c.self.inside in
    let k = c.self.invariant in
    let numbered = subst (IsNumbered t.commits) (there_now (goal.at.publications_after-publications-requires c).In-Some-place_of_job) (numbered-chunk_at t.spec t.chunks c.args.job.now.chunk t.commits k.numbered (rising-starts t.spec t.stream.items t.chunks k.starts)) in
    let few = numbered.publications in
    let commits = k.commits in
    let most = k.formed.limits.few_commits in
    omega arith

-- how many publications there are then, and the version
after : (c : After-version_for-version) → c.publications_after-publications.result ≡ publications_after c.args.job.now.purpose c.in-Some.there.now.publications
after c = c.publications_after-publications.ensures

numbered_so : (c : After-version_for-version) → c.version_for-version.result ≡ version_for c.args.job.now.purpose (publications_after c.args.job.now.purpose c.in-Some.there.now.publications) (map range_of (take (length c.args.job.now.inputs) (drop c.in-Some-place_of_job.place c.in-Some.there.now.sealed)))
numbered_so c =
    let sealed : c.as_slice-sealed.result.now ≡ c.in-Some.there.now.sealed = c.as_slice-sealed.ensures in
    let len = c.len-count.ensures in
    let taken : c.in-Some-place_of_job.place + c.len-count.result - c.in-Some-place_of_job.place ≡ length c.args.job.now.inputs = omega arith in
    let publications = after c in
    c.version_for-version.ensures ∙ (λ i. version_for c.args.job.now.purpose (publications i) (map range_of (take (taken i) (drop c.in-Some-place_of_job.place (sealed i)))))

-- the new range
abbrev joined_there : After-replace → SealedRange
joined_there c = record { serial = c.self.inside.seals + c.self.inside.commits; version = c.version_for-version.result; fragment = c.in_ok-new.field-0 }

is_joined : (c : After-replace) → c.in_ok-new.field-0 ≡ joined_fragment c.self.inside.spec c.args.job.now
is_joined c = c.in_ok-new.ensures.ok ∙ c.requires ∙ ap (λ (s : State). joined_fragment s.schema c.args.job.now) (sym c.self.view_is)

changed : (c : After-replace) → c.replace.new.self ≡ at_start c.self.inside.spec (with_range c.in-Some-place_of_job.place (length c.args.job.now.inputs) (publications_after c.args.job.now.purpose c.in-Some.there.now.publications) (joined_there c)) c.args.job.now.chunk c.self.inside.chunks
changed c =
    let fits : FitsSigned w64 c.args.job.now.chunk = search rules in
    rw (to_z-of_z w64 c.args.job.now.chunk fits, c.len-count.ensures, c.publications_after-publications.ensures) at (c.replace.ensures c.self.inside.spec)

pub invariant_of-self : goal.invariant_of-self
invariant_of-self c =
    let t = c.self.inside in
    let at_chunk = (goal.at.invariant_of-self c).After-as_slice-sealed in
    let new = (goal.at.invariant_of-self c).After-replace in
    let at = place-found t.chunks c.args.job.now.chunk c.in-Some.there.now (found at_chunk) in
    rw (changed new)
    (keeps-merged t.spec t.stream.items t.chunks t.seals t.commits c.args.job.now c.in-Some.there.now at.0 c.in-Some-place_of_job.place (joined_there new) c.self.invariant (there at_chunk) at.1 at.2 at.3
    (stands_in (goal.at.invariant_of-self c).In-Some-place_of_job) (is_joined new) (numbered_so (goal.at.invariant_of-self c).After-version_for-version) (room new))

pub returns-clause-ok : goal.returns-clause-ok
returns-clause-ok c =
    let t = c.self.inside in
    let at_chunk = (goal.at.returns-clause-ok c).After-as_slice-sealed in
    let some = (goal.at.returns-clause-ok c).In-Some-place_of_job in
    let made = (goal.at.returns-clause-ok c).After-replace in
    let x : Chunk = c.in-Some.there.now in
    let before : State = seen t.spec t.stream.items t.chunks (t.seals + t.commits) t.commits t.unparseable t.thrown_away in
    let publications = sym (shown-publications t.spec t.chunks c.args.job.now.chunk x (there at_chunk)) in
    let ranges = sym (shown-part t.spec t.stream.items t.chunks (t.seals + t.commits) t.commits t.unparseable t.thrown_away c.args.job.now.chunk x c.in-Some-place_of_job.place (length c.args.job.now.inputs) (there at_chunk)) in
    let version : c.version_for-version.result ≡ (joined_range before c.args.job.now c.in-Some-place_of_job.place).version =
    numbered_so (goal.at.returns-clause-ok c).After-version_for-version ∙ (λ i. version_for c.args.job.now.purpose (publications_after c.args.job.now.purpose (publications i)) (ranges i)) in
    let is = is_joined made in
    let range : range_of (joined_there made) ≡ joined_range before c.args.job.now c.in-Some-place_of_job.place = λ i. record { from = (is i).from; to = (is i).to; serial = t.seals + t.commits; version = version i } in
    let shown : seen t.spec t.stream.items c.replace.new.self (t.seals + (t.commits + 1)) (t.commits + 1) t.unparseable t.thrown_away ≡ committed before c.args.job.now c.in-Some-place_of_job.place =
    ap (λ (cs : List Chunk). seen t.spec t.stream.items cs (t.seals + (t.commits + 1)) (t.commits + 1) t.unparseable t.thrown_away) (changed made)
    ∙ state-merged t.spec t.stream.items t.chunks t.seals t.commits t.unparseable t.thrown_away c.args.job.now x c.in-Some-place_of_job.place (joined_there made) c.self.invariant (there at_chunk) range in
    record {
      place = c.in-Some-place_of_job.place;
      stands = stands some;
      first = first some;
      version_is = version ∙ ap (λ (s : State). (joined_range s c.args.job.now c.in-Some-place_of_job.place).version) c.self.view_is;
      new_is = shown ∙ ap (λ (s : State). committed s c.args.job.now c.in-Some-place_of_job.place) c.self.view_is;
    }

pub returns-clause-step : goal.returns-clause-step
returns-clause-step c =
    commit-ok c.args.self.now _ c.args.job.now c.version_for-version.result (returns-clause-ok c)
    (subst (λ (s : State). s.commits < s.schema.limits.max_commits) c.self.view_is (room (goal.at.returns-clause-step c).After-replace))
