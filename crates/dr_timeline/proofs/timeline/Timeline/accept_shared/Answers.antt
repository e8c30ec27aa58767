use Rattle.std.proofs.Common.{◌≡◌, ◌++◌, ◌∷◌, [], ◌∙◌, sym, ap, subst, ℕ, Ok, w64, FitsSigned, rules, arith, length, ◌<◌, ◌+◌, List}
use Rattle.std.proofs.lemmas.Int.{to_z-of_z}
use Rattle.dr_base.specs.declared.event.Event.{Event}
use Rattle.dr_schema.specs.Fits.{FitsSchema}
use Rattle.dr_schema.specs.declared.schema.Schema.{Schema}
use Rattle.dr_schema.specs.declared.limits.Limits.{Limits}
use Rattle.dr_cuts.specs.State.{State}
use Rattle.dr_timeline.specs.Steps.{accepted}
use Rattle.dr_timeline.proofs.Keeping.{keeps-grown, state-grown, chunks-fit}
use Rattle.dr_timeline.proofs.Placing.{accept-ok}
use Rattle.dr_timeline.proofs.timeline.Timeline.accept_shared.Goals as goal

pub grow-requires-clause-chunks : goal.grow-requires-clause-chunks
grow-requires-clause-chunks c =
    let most : c.limits-limits.result.max_retained ≡ c.self.inside.spec.limits.max_retained = ap (λ (l : Limits). l.max_retained) c.limits-limits.ensures ∙ ap (λ (x : Schema). x.limits.max_retained) c.schema-schema.ensures.value in
    let room = c.if-number-limits.false in
    let number : c.len-number.result ≡ length c.self.inside.stream.items = search rules in
    let bound = c.schema-schema.ensures.well_formed.limits.few_retained in
    let few : length c.self.inside.stream.items < 18446744073709551615 = omega arith in
    rw c.schema-schema.ensures.value (chunks-fit c.self.inside.spec c.self.inside.stream.items c.self.inside.chunks few c.self.invariant.each)

pub invariant_of-self-2 : goal.invariant_of-self-2
invariant_of-self-2 c =
    let most : c.limits-limits.result.max_retained ≡ c.self.inside.spec.limits.max_retained = ap (λ (l : Limits). l.max_retained) c.limits-limits.ensures ∙ ap (λ (x : Schema). x.limits.max_retained) c.schema-schema.ensures.value in
    let room : length c.self.inside.stream.items < c.self.inside.spec.limits.max_retained = rw (← c.len-number.ensures) (omega (arith, most, c.if-number-limits.false)) in
    let fits : FitsSigned w64 c.chunk_start-start.result = search rules in
    let stream : c.push.new.self.items ≡ c.self.inside.stream.items ++ c.args.event ∷ [] = c.push.ensures ∙ ap (λ (es : List Event). es ++ c.args.event ∷ []) c.in_ok-reserve.ensures.items in
    let put = rw (to_z-of_z w64 c.chunk_start-start.result fits, c.chunk_start-start.ensures, c.schema-schema.ensures.value, c.event-read.ensures) at c.in_ok-seals.ensures.ok in
    let seals = rw (to_z-of_z w64 c.chunk_start-start.result fits, c.chunk_start-start.ensures, c.schema-schema.ensures.value, c.event-read.ensures) at c.in_ok-seals.ensures.seals in
    rw (stream, put, seals) (keeps-grown c.self.inside.spec c.self.inside.stream.items c.self.inside.chunks c.self.inside.seals c.self.inside.commits c.args.event (c.self.inside.seals + c.self.inside.commits) c.self.invariant (subst (λ (s : State). FitsSchema s.schema c.args.event) (sym c.self.view_is) c.requires) (rw c.event-read.ensures at c.known_texts.ensures) room)

pub returns-clause-ok : goal.returns-clause-ok
returns-clause-ok c =
    let t = c.self.inside in
    let fits : FitsSigned w64 c.chunk_start-start.result = search rules in
    let stream : c.push.new.self.items ≡ c.self.inside.stream.items ++ c.args.event ∷ [] = c.push.ensures ∙ ap (λ (es : List Event). es ++ c.args.event ∷ []) c.in_ok-reserve.ensures.items in
    let put = rw (to_z-of_z w64 c.chunk_start-start.result fits, c.chunk_start-start.ensures, c.schema-schema.ensures.value, c.event-read.ensures) at c.in_ok-seals.ensures.ok in
    let seals = rw (to_z-of_z w64 c.chunk_start-start.result fits, c.chunk_start-start.ensures, c.schema-schema.ensures.value, c.event-read.ensures) at c.in_ok-seals.ensures.seals in
    rw (stream, put, seals)
    (state-grown t.spec t.stream.items t.chunks t.seals t.commits t.unparseable t.thrown_away c.args.event c.self.invariant
    ∙ ap (λ (s : State). accepted s c.args.event) c.self.view_is)

pub returns-clause-step : goal.returns-clause-step
returns-clause-step c =
    let t = c.self.inside in
    let number : c.len-number.result ≡ length t.stream.items = search rules in
    let most : c.limits-limits.result.max_retained ≡ c.self.inside.spec.limits.max_retained = ap (λ (l : Limits). l.max_retained) c.limits-limits.ensures ∙ ap (λ (x : Schema). x.limits.max_retained) c.schema-schema.ensures.value in
    let below : c.len-number.result < t.spec.limits.max_retained = omega (arith, most, c.if-number-limits.false) in
    let room : length t.stream.items < t.spec.limits.max_retained = subst (λ (n : ℕ). n < t.spec.limits.max_retained) number below in
    accept-ok c.args.self.now c.args.event (subst (λ (s : State). length s.stream < s.schema.limits.max_retained) c.self.view_is room)
    ∙ (λ i. Ok ((ap (λ (s : State). length s.stream) (sym c.self.view_is) ∙ sym number) i, (sym (returns-clause-ok c)) i))
