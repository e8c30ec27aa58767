use Rattle.std.proofs.Common.{◌∙◌, ap, ◌++◌}
use Rattle.dr_segment.proofs.WritingLemmas.{low_bytes}
use Rattle.dr_segment.proofs.writing.put_count.Goals as goal

pub returns : goal.returns
returns c = c.in_ok-put_word.ensures ∙ ap (λ k. c.args.out.now.items ++ k) (low_bytes c.args.n)
