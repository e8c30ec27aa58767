use Rattle.std.proofs.Common.{◌≡◌, ◌∙◌, sym, ap, subst, map}
use Rattle.dr_rollup.specs.Unrolled.{unrolled}
use Rattle.dr_ask.specs.Asked.{Asked, asked}
use Rattle.dr_ask.specs.Once.{once}
use Rattle.dr_answers.specs.Answer.{answer}
use Rattle.dr_answers.specs.AnswerRefusal.{Answers}
use Rattle.dr_answers.specs.Span.{span}
use Rattle.dr_partial.specs.Partial.{partial}
use Rattle.dr_fragment.specs.declared.fragment.Fragment.{Fragment}
use Rattle.dr_cuts.specs.RawAnswer.{raw_answer}
use Rattle.dr_cuts.specs.Segments.{Pinned, rows_of}
use Rattle.dr_workers.specs.Shared as shared
use Rattle.dr_timeline.specs.Answering.{answer_from}
use Rattle.dr_timeline.proofs.ShownRows.{times-shown, answer-own, answer-raw}
use Rattle.dr_timeline.proofs.Times.{AtInstants, EndsAtInstants, ends-unrolled}
use Rattle.dr_timeline.proofs.snapshot.Snapshot.answer.Goals as goal

pub partial_by-requires-after_bounds : goal.partial_by-requires-after_bounds
partial_by-requires-after_bounds g c κs within =
    let s = c.self.inside in
    subst AtInstants (ap shared.rows_of (sym c.as_slice.ensures)) (times-shown s.schema s.stream.items (map (λ (f : Fragment). f.rows) s.fragments) s.ranges.items c.self.invariant)

pub answer-requires-clause-span : goal.answer-requires-clause-span
answer-requires-clause-span g c =
    subst EndsAtInstants (ap (λ (p : Pinned). span (map (unrolled p.schema) p.stream)) c.self.view_is ∙ sym c.span.ensures) (ends-unrolled c.self.inside.schema c.self.inside.stream.items c.self.invariant.fit)

pub returns-clause-own_rows : goal.returns-clause-own_rows
returns-clause-own_rows g c =
    let s = c.self.inside in
    let q : Asked = asked c.args.query.now in
    let spans = c.span.ensures ∙ sym (ap (λ (p : Pinned). span (map (unrolled p.schema) p.stream)) c.self.view_is) in
    let made = c.in_ok-groups.ensures.value ∙ ap (λ fs. partial (once q) (shared.rows_of fs)) c.as_slice.ensures in
    let from : answer_from q c.span.result c.in_ok-groups.groups ≡ answer q (rows_of c.args.self.now) =
    answer-own s.schema s.stream.items (map (λ (f : Fragment). f.rows) s.fragments) s.ranges.items c.self.invariant q c.span.result c.in_ok-groups.groups spans made ∙ ap (λ (p : Pinned). answer q (rows_of p)) c.self.view_is in
    c.told.ensures.told (answer q (rows_of c.args.self.now)) (subst (Answers (λ text. text.items) c.answer.result) from c.answer.ensures)

pub returns-clause-raw_where_matching : goal.returns-clause-raw_where_matching
returns-clause-raw_where_matching g c = λ matches.
    let s = c.self.inside in
    let q : Asked = asked c.args.query.now in
    let for_schema = rw (← c.self.view_is) at c.requires in
    let spans = c.span.ensures ∙ sym (ap (λ (p : Pinned). span (map (unrolled p.schema) p.stream)) c.self.view_is) in
    let made = c.in_ok-groups.ensures.value ∙ ap (λ fs. partial (once q) (shared.rows_of fs)) c.as_slice.ensures in
    let from : answer_from q c.span.result c.in_ok-groups.groups ≡ raw_answer c.args.self.now.schema q c.args.self.now.stream =
    answer-raw s.schema s.stream.items (map (λ (f : Fragment). f.rows) s.fragments) s.ranges.items c.self.invariant q c.span.result c.in_ok-groups.groups spans made for_schema matches
    ∙ ap (λ (p : Pinned). raw_answer p.schema q p.stream) c.self.view_is in
    c.told.ensures.told (raw_answer c.args.self.now.schema q c.args.self.now.stream) (subst (Answers (λ text. text.items) c.answer.result) from c.answer.ensures)

pub returns-clause-alone : goal.returns-clause-alone
returns-clause-alone g c = λ few. c.told.ensures.threads

pub returns-clause-few : goal.returns-clause-few
returns-clause-few g c = λ few. c.told.ensures.threads
