use Rattle.std.proofs.Common.{◌∙◌, sym, ap, ◌++◌}
use Rattle.dr_image.specs.Words.{eight_bytes}
use Rattle.dr_segment.proofs.WritingLemmas.{all_of_them, longs_by}
use Rattle.dr_segment.proofs.writing.put_longs.Goals as goal

pub returns : goal.returns
returns c = all_of_them eight_bytes c.args.out.now.items c.loop-long.out.items c.args.longs.now c.loop-long.long-index c.loop-long-test.false c.loop-long.invariant ∙ ap (λ k. c.args.out.now.items ++ k) (sym (longs_by c.args.longs.now))
