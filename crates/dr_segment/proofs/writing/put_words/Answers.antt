use Rattle.std.proofs.Common.{◌∙◌, sym, ap, ◌++◌}
use Rattle.dr_image.specs.Words.{four_bytes}
use Rattle.dr_segment.proofs.WritingLemmas.{all_of_them, words_by}
use Rattle.dr_segment.proofs.writing.put_words.Goals as goal

pub returns : goal.returns
returns c = all_of_them four_bytes c.args.out.now.items c.loop-word.out.items c.args.words.now c.loop-word.word-index c.loop-word-test.false c.loop-word.invariant ∙ ap (λ k. c.args.out.now.items ++ k) (sym (words_by c.args.words.now))
