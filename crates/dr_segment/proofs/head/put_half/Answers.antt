use Rattle.std.proofs.Common.{◌∙◌, ap, ◌++◌}
use Rattle.dr_segment.proofs.WritingLemmas.{low_half}
use Rattle.dr_segment.proofs.head.put_half.Goals as goal

pub returns : goal.returns
returns c = c.in_ok-put_short.ensures ∙ ap (λ k. c.args.out.now.items ++ k) (low_half c.args.n)
