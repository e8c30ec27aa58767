use Rattle.std.proofs.Common.{◌∙◌, sym, ap, ◌++◌}
use Rattle.dr_segment.proofs.WritingLemmas.{all_of_them, flat_map-map}
use Rattle.dr_segment.proofs.writing.put_texts.Goals as goal

pub returns : goal.returns
returns c =
    all_of_them (λ t. t.now) c.args.out.now.items c.loop-text.out.items c.args.texts.now c.loop-text.text-index c.loop-text-test.false c.loop-text.invariant
    ∙ ap (λ k. c.args.out.now.items ++ k) (sym (flat_map-map (λ t. t.now) (λ k. k) c.args.texts.now))
