use Rattle.std.proofs.Common.{◌≡◌, ◌∙◌, sym, ap, refl, true, Some, Ok, [], w64, rules, ◌+◌}
use Rattle.std.proofs.lemmas.Int.{to_z-of_z}
use Rattle.std.proofs.lemmas.Result.{err_from_is_err_and}
use Rattle.dr_cuts.specs.State.{State}
use Rattle.dr_timeline.specs.Steps.{sealed_at, open_in}
use Rattle.dr_chunks.specs.Held.{chunk_at, chunk_in, has_open, at_start, with_open_sealed}
use Rattle.dr_chunks.proofs.Places.{chunk_at-in, place-found}
use Rattle.dr_timeline.proofs.Keeping.{keeps-sealed, state-sealed, open-new, open-empty, open-there}
use Rattle.dr_timeline.proofs.Placing.{seal-ok, seal-none}
use Rattle.dr_timeline.proofs.timeline.Timeline.seal.Goals as goal
use Rattle.dr_timeline.proofs.timeline.Timeline.seal.Goals.{After-has_open, After-seal, In_ok-seal}

pub overflow_add-serial : goal.overflow_add-serial
overflow_add-serial c =
    let retained = c.self.invariant.retained in
    let few = c.self.invariant.formed.limits.few_retained in
    let seals = c.self.invariant.seals in
    let commits = c.self.invariant.commits in
    let bound = c.self.invariant.formed.limits.few_commits in
    search rules

pub returns-in_default-clause-nothing : goal.returns-in_default-clause-nothing
returns-in_default-clause-nothing c =
    let t = c.self.inside in
    let k = c.self.invariant in
    let found = sym (rw (to_z-of_z w64 c.args.chunk c.ranges.chunk) at c.in_default.ensures) in
    let none : open_in c.args.self.now c.args.chunk ≡ [] =
    ap (λ (s : State). open_in s c.args.chunk) (sym c.self.view_is) ∙ open-new t.spec t.stream.items t.chunks c.args.chunk (t.seals + t.commits) t.commits t.unparseable t.thrown_away k.starts k.each found in
    (λ h. none, λ h. refl)

-- ---- the chunk

found : (c : After-has_open) → chunk_in c.args.chunk c.self.inside.chunks ≡ Some c.in-Some.there.now
found c = sym (rw (to_z-of_z w64 c.args.chunk c.ranges.chunk) at c.in-Some.ensures)

here : (c : After-has_open) → chunk_at c.self.inside.spec c.args.chunk c.self.inside.chunks ≡ c.in-Some.there.now
here c = chunk_at-in c.self.inside.spec c.self.inside.chunks c.args.chunk c.in-Some.there.now (found c)

pub seal-requires : goal.seal-requires
seal-requires c = rw (to_z-of_z w64 c.args.chunk c.ranges.chunk, found (goal.at.seal-requires c).After-has_open) refl

-- ---- its open range is empty

pub returns-then-not-has_open-clause-nothing : goal.returns-then-not-has_open-clause-nothing
returns-then-not-has_open-clause-nothing c =
    let t = c.self.inside in
    let k = c.self.invariant in
    let test = ap has_open (here (goal.at.returns-then-not-has_open-clause-nothing c).After-has_open) ∙ sym c.has_open.ensures ∙ c.if-not-has_open.true in
    let none : open_in c.args.self.now c.args.chunk ≡ [] =
    ap (λ (s : State). open_in s c.args.chunk) (sym c.self.view_is) ∙ open-empty t.spec t.stream.items t.chunks c.args.chunk (t.seals + t.commits) t.commits t.unparseable t.thrown_away k.starts k.each test in
    (λ h. none, λ h. refl)

-- ---- it has an event

is_open : (c : After-seal) → chunk_at c.self.inside.spec c.args.chunk c.self.inside.chunks ≡ c.in-Some.there.now → has_open (chunk_at c.self.inside.spec c.args.chunk c.self.inside.chunks) ≡ true
is_open c there = ap has_open there ∙ sym c.has_open.ensures ∙ c.if-not-has_open.false

some : (c : After-seal) → has_open (chunk_at c.self.inside.spec c.args.chunk c.self.inside.chunks) ≡ true → open_in c.args.self.now c.args.chunk ≡ [] → ⊥
some c test none =
    let t = c.self.inside in
    let k = c.self.invariant in
    open-there t.spec t.stream.items t.chunks c.args.chunk (t.seals + t.commits) t.commits t.unparseable t.thrown_away k.starts k.each test (ap (λ (s : State). open_in s c.args.chunk) c.self.view_is ∙ none)

pub returns-in_err-seal-clause-nothing : goal.returns-in_err-seal-clause-nothing
returns-in_err-seal-clause-nothing c =
    let sealed = (goal.at.returns-in_err-seal-clause-nothing c).After-seal in
    let p = err_from_is_err_and c.from_residual.result c.from_residual.ensures.1 in
    rw (p.1, p.2) (λ h. cc, λ h. absurd (some sealed (is_open sealed (here (goal.at.returns-in_err-seal-clause-nothing c).After-has_open)) h))

changed : (c : In_ok-seal) → c.seal.new.self ≡ at_start c.self.inside.spec (with_open_sealed (c.self.inside.seals + c.self.inside.commits)) c.args.chunk c.self.inside.chunks
changed c = rw (to_z-of_z w64 c.args.chunk c.ranges.chunk) at (c.in_ok-seal.ensures.ok c.self.inside.spec)

pub invariant_of-self-2 : goal.invariant_of-self-2
invariant_of-self-2 c =
    let t = c.self.inside in
    let there = (goal.at.invariant_of-self-2 c).After-has_open in
    let place = place-found t.chunks c.args.chunk c.in-Some.there.now (found there) in
    rw (changed (goal.at.invariant_of-self-2 c).In_ok-seal)
    (keeps-sealed t.spec t.stream.items t.chunks t.seals t.commits c.args.chunk place.0 (t.seals + t.commits) c.self.invariant place.1 place.2 place.3 (is_open (goal.at.invariant_of-self-2 c).After-seal (here there)))

pub returns-clause-ok : goal.returns-clause-ok
returns-clause-ok c =
    let t = c.self.inside in
    rw (changed (goal.at.returns-clause-ok c).In_ok-seal)
    (state-sealed t.spec t.stream.items t.chunks t.seals t.commits t.unparseable t.thrown_away c.args.chunk c.self.invariant ∙ ap (sealed_at c.args.chunk) c.self.view_is)

pub returns-clause-nothing : goal.returns-clause-nothing
returns-clause-nothing c =
    let sealed = (goal.at.returns-clause-nothing c).After-seal in
    (λ h. cc, λ h. absurd (some sealed (is_open sealed (here (goal.at.returns-clause-nothing c).After-has_open)) h))

pub returns-in_default-clause-step : goal.returns-in_default-clause-step
returns-in_default-clause-step c = λ _. seal-none c.args.self.now c.args.chunk ((returns-in_default-clause-nothing c).0 refl)

pub returns-then-not-has_open-clause-step : goal.returns-then-not-has_open-clause-step
returns-then-not-has_open-clause-step c = λ _. seal-none c.args.self.now c.args.chunk ((returns-then-not-has_open-clause-nothing c).0 refl)

pub returns-clause-step : goal.returns-clause-step
returns-clause-step c = seal-ok c.args.self.now c.args.chunk (λ h. let bad = (returns-clause-nothing c).1 h in cc) ∙ ap Ok (sym (returns-clause-ok c))
