use Rattle.std.proofs.Common.{◌∙◌, sym, ap, false, length, get_or}
use Rattle.std.proofs.lemmas.List.{with_items_is}
use Rattle.dr_rowindex.specs.Truths.{truths}
use Rattle.dr_rowindex.proofs.TruthLemmas.{length-truths, same-count, same-words, added_three-same, three-added}
use Rattle.dr_rowindex.proofs.ZeroLemmas.{none-added-two}
use Rattle.dr_rowindex.proofs.row_set.RowSet.or_and_two.Goals as goal

pub add_bits_of_three-self-inside-requires-clause-others : goal.add_bits_of_three-self-inside-requires-clause-others
add_bits_of_three-self-inside-requires-clause-others c =
    same-words c.args.self.now c.args.other.now c.self.inside.words.items c.other.inside.words.items c.as_mut_slice.result.now c.as_slice.result.now c.self.inside.count c.other.inside.count
    c.self.view_is c.other.view_is c.requires.other c.self.invariant.0 c.other.invariant.0 c.as_mut_slice.ensures.value c.as_slice.ensures.value

pub add_bits_of_three-self-inside-requires-clause-a : goal.add_bits_of_three-self-inside-requires-clause-a
add_bits_of_three-self-inside-requires-clause-a c =
    same-words c.args.self.now c.args.one.now c.self.inside.words.items c.one.inside.words.items c.as_mut_slice.result.now c.as_slice-then-other.result.now c.self.inside.count c.one.inside.count
    c.self.view_is c.one.view_is c.requires.one c.self.invariant.0 c.one.invariant.0 c.as_mut_slice.ensures.value c.as_slice-then-other.ensures.value

pub add_bits_of_three-self-inside-requires-clause-b : goal.add_bits_of_three-self-inside-requires-clause-b
add_bits_of_three-self-inside-requires-clause-b c =
    same-words c.args.self.now c.args.two.now c.self.inside.words.items c.two.inside.words.items c.as_mut_slice.result.now c.as_slice-then-other-2.result.now c.self.inside.count c.two.inside.count
    c.self.view_is c.two.view_is c.requires.two c.self.invariant.0 c.two.invariant.0 c.as_mut_slice.ensures.value c.as_slice-then-other-2.ensures.value

pub returns-then-other-clause-count : goal.returns-then-other-clause-count
returns-then-other-clause-count c = length-truths _ c.self.inside.count ∙ sym (sym (ap length c.self.view_is) ∙ length-truths c.self.inside.words.items c.self.inside.count)

pub returns-then-other-clause-each : goal.returns-then-other-clause-each
returns-then-other-clause-each c = λ i lt.
    let self = c.args.self.now in
    let ws = c.self.inside.words.items in
    let n = c.self.inside.count in
    let after = c.add_bits_of_three-self-inside.new.words in
    let ne = same-count self c.args.other.now ws c.other.inside.words.items n c.other.inside.count c.self.view_is c.other.view_is c.requires.other in
    let na = same-count self c.args.one.now ws c.one.inside.words.items n c.one.inside.count c.self.view_is c.one.view_is c.requires.one in
    let nb = same-count self c.args.two.now ws c.two.inside.words.items n c.two.inside.count c.self.view_is c.two.view_is c.requires.two in
    let each = added_three-same ws c.other.inside.words.items c.one.inside.words.items c.two.inside.words.items
    c.as_mut_slice.result.now c.as_slice.result.now c.as_slice-then-other.result.now c.as_slice-then-other-2.result.now after
    c.as_mut_slice.ensures.value c.as_slice.ensures.value c.as_slice-then-other.ensures.value c.as_slice-then-other-2.ensures.value c.add_bits_of_three-self-inside.ensures.each in
    ap (λ l. get_or (truths l n) i false) (with_items_is c.self.inside.words after (c.add_bits_of_three-self-inside.ensures.count ∙ c.as_mut_slice.ensures.len))
    ∙ three-added self c.args.other.now c.args.one.now c.args.two.now ws c.other.inside.words.items c.one.inside.words.items c.two.inside.words.items after
    n c.other.inside.count c.one.inside.count c.two.inside.count c.self.view_is c.other.view_is c.one.view_is c.two.view_is ne na nb c.self.invariant.0 each i lt

pub returns-else-other-clause-each : goal.returns-else-other-clause-each
returns-else-other-clause-each c = none-added-two c.args.self.now c.args.other.now c.args.one.now c.args.two.now c.other.inside.words.items c.other.inside.count c.other.view_is (c.other.invariant.1 c.if-other.false)
