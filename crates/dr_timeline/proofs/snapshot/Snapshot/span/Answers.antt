use Rattle.std.proofs.Common.{◌∙◌, ap, map}
use Rattle.dr_answers.specs.Span.{span}
use Rattle.dr_cuts.specs.Segments.{Pinned}
use Rattle.dr_rollup.specs.Unrolled.{unrolled}
use Rattle.dr_timeline.proofs.snapshot.Snapshot.span.Goals as goal

pub span_of-requires : goal.span_of-requires
span_of-requires c = c.self.invariant.fit

pub returns : goal.returns
returns c = c.span_of.ensures ∙ ap (λ (p : Pinned). span (map (unrolled p.schema) p.stream)) c.self.view_is
