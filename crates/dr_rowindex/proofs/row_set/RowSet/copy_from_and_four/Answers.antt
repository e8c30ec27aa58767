use Rattle.std.proofs.Common.{◌∙◌, sym, ap, false, length, get_or}
use Rattle.std.proofs.lemmas.List.{with_items_is}
use Rattle.dr_rowindex.specs.Truths.{truths}
use Rattle.dr_rowindex.proofs.TruthLemmas.{length-truths, same-count, same-words, put-same, sets-put}
use Rattle.dr_rowindex.proofs.row_set.RowSet.copy_from_and_four.Goals as goal

pub put_bits_of_five-self-inside-requires-clause-others : goal.put_bits_of_five-self-inside-requires-clause-others
put_bits_of_five-self-inside-requires-clause-others c =
    same-words c.args.self.now c.args.other.now c.self.inside.words.items c.other.inside.words.items c.as_mut_slice.result.now c.as_slice.result.now c.self.inside.count c.other.inside.count
    c.self.view_is c.other.view_is c.requires.other c.self.invariant.0 c.other.invariant.0 c.as_mut_slice.ensures.value c.as_slice.ensures.value

pub put_bits_of_five-self-inside-requires-clause-a : goal.put_bits_of_five-self-inside-requires-clause-a
put_bits_of_five-self-inside-requires-clause-a c =
    same-words c.args.self.now c.args.one.now c.self.inside.words.items c.one.inside.words.items c.as_mut_slice.result.now c.as_slice-2.result.now c.self.inside.count c.one.inside.count
    c.self.view_is c.one.view_is c.requires.one c.self.invariant.0 c.one.invariant.0 c.as_mut_slice.ensures.value c.as_slice-2.ensures.value

pub put_bits_of_five-self-inside-requires-clause-b : goal.put_bits_of_five-self-inside-requires-clause-b
put_bits_of_five-self-inside-requires-clause-b c =
    same-words c.args.self.now c.args.two.now c.self.inside.words.items c.two.inside.words.items c.as_mut_slice.result.now c.as_slice-3.result.now c.self.inside.count c.two.inside.count
    c.self.view_is c.two.view_is c.requires.two c.self.invariant.0 c.two.invariant.0 c.as_mut_slice.ensures.value c.as_slice-3.ensures.value

pub put_bits_of_five-self-inside-requires-clause-c : goal.put_bits_of_five-self-inside-requires-clause-c
put_bits_of_five-self-inside-requires-clause-c c =
    same-words c.args.self.now c.args.three.now c.self.inside.words.items c.three.inside.words.items c.as_mut_slice.result.now c.as_slice-4.result.now c.self.inside.count c.three.inside.count
    c.self.view_is c.three.view_is c.requires.three c.self.invariant.0 c.three.invariant.0 c.as_mut_slice.ensures.value c.as_slice-4.ensures.value

pub put_bits_of_five-self-inside-requires-clause-d : goal.put_bits_of_five-self-inside-requires-clause-d
put_bits_of_five-self-inside-requires-clause-d c =
    same-words c.args.self.now c.args.four.now c.self.inside.words.items c.four.inside.words.items c.as_mut_slice.result.now c.as_slice-5.result.now c.self.inside.count c.four.inside.count
    c.self.view_is c.four.view_is c.requires.four c.self.invariant.0 c.four.invariant.0 c.as_mut_slice.ensures.value c.as_slice-5.ensures.value

pub returns-clause-count : goal.returns-clause-count
returns-clause-count c = length-truths _ c.self.inside.count ∙ sym (sym (ap length c.self.view_is) ∙ length-truths c.self.inside.words.items c.self.inside.count)

pub returns-clause-each : goal.returns-clause-each
returns-clause-each c = λ i lt.
    let self = c.args.self.now in
    let ws = c.self.inside.words.items in
    let n = c.self.inside.count in
    let after = c.put_bits_of_five-self-inside.new.words in
    let ne = same-count self c.args.other.now ws c.other.inside.words.items n c.other.inside.count c.self.view_is c.other.view_is c.requires.other in
    let na = same-count self c.args.one.now ws c.one.inside.words.items n c.one.inside.count c.self.view_is c.one.view_is c.requires.one in
    let nb = same-count self c.args.two.now ws c.two.inside.words.items n c.two.inside.count c.self.view_is c.two.view_is c.requires.two in
    let nc = same-count self c.args.three.now ws c.three.inside.words.items n c.three.inside.count c.self.view_is c.three.view_is c.requires.three in
    let nd = same-count self c.args.four.now ws c.four.inside.words.items n c.four.inside.count c.self.view_is c.four.view_is c.requires.four in
    let each = put-same ws c.other.inside.words.items c.one.inside.words.items c.two.inside.words.items c.three.inside.words.items c.four.inside.words.items
    c.as_mut_slice.result.now c.as_slice.result.now c.as_slice-2.result.now c.as_slice-3.result.now c.as_slice-4.result.now c.as_slice-5.result.now after
    c.as_mut_slice.ensures.value c.as_slice.ensures.value c.as_slice-2.ensures.value c.as_slice-3.ensures.value c.as_slice-4.ensures.value c.as_slice-5.ensures.value c.put_bits_of_five-self-inside.ensures.each in
    ap (λ l. get_or (truths l n) i false) (with_items_is c.self.inside.words after (c.put_bits_of_five-self-inside.ensures.count ∙ c.as_mut_slice.ensures.len))
    ∙ sets-put self c.args.other.now c.args.one.now c.args.two.now c.args.three.now c.args.four.now ws c.other.inside.words.items c.one.inside.words.items c.two.inside.words.items c.three.inside.words.items c.four.inside.words.items after
    n c.other.inside.count c.one.inside.count c.two.inside.count c.three.inside.count c.four.inside.count c.self.view_is c.other.view_is c.one.view_is c.two.view_is c.three.view_is c.four.view_is ne na nb nc nd c.self.invariant.0 each i lt
