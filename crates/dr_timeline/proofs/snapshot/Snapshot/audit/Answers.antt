use Rattle.std.proofs.Common.{◌≡◌, ◌∙◌, sym, ap, subst, map}
use Rattle.std.specs.List.{flat_map}
use Rattle.dr_rollup.specs.Unrolled.{unrolled}
use Rattle.dr_ask.specs.Asked.{Asked, asked}
use Rattle.dr_ask.specs.Once.{once}
use Rattle.dr_answers.specs.Span.{span}
use Rattle.dr_partial.specs.Partial.{partial}
use Rattle.dr_cuts.specs.RawAnswer.{raw_answer}
use Rattle.dr_cuts.specs.Segments.{Pinned}
use Rattle.dr_timeline.specs.Answering.{answer_from}
use Rattle.dr_timeline.proofs.PartialAnswers.{answer-partial}
use Rattle.dr_timeline.proofs.Times.{EndsAtInstants, ends-unrolled}
use Rattle.dr_timeline.proofs.snapshot.Snapshot.audit.Goals as goal

pub answer-requires-clause-span : goal.answer-requires-clause-span
answer-requires-clause-span c =
    subst EndsAtInstants (ap (λ (p : Pinned). span (map (unrolled p.schema) p.stream)) c.self.view_is ∙ sym c.span.ensures) (ends-unrolled c.self.inside.schema c.self.inside.stream.items c.self.invariant.fit)

pub returns : goal.returns
returns c =
    let s = c.self.inside in
    let q : Asked = asked c.args.query.now in
    let p : Pinned = c.args.self.now in
    let lent = ap (flat_map (λ p. p.now)) c.deref.ensures.value ∙ c.in_ok-pieces.ensures in
    let made : c.in_ok-partial.partial ≡ partial (once q) (map (unrolled p.schema) p.stream) =
    c.in_ok-partial.ensures.value ∙ ap (λ es. partial (once q) (map (unrolled s.schema) es)) lent ∙ ap (λ (p : Pinned). partial (once q) (map (unrolled p.schema) p.stream)) c.self.view_is in
    let from : answer_from q c.span.result c.in_ok-partial.partial ≡ raw_answer p.schema q p.stream =
    (λ i. answer_from q (c.span.ensures i) (made i)) ∙ sym (answer-partial q (map (unrolled p.schema) p.stream)) in
    rw (← from) c.answer.ensures
