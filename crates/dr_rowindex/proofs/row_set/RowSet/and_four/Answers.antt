use Rattle.std.proofs.Common.{◌∙◌, sym, ap, false, length, get_or}
use Rattle.std.proofs.lemmas.List.{with_items_is}
use Rattle.dr_rowindex.specs.Truths.{truths}
use Rattle.dr_rowindex.proofs.TruthLemmas.{length-truths, same-count, same-words, met-same, four-sets}
use Rattle.dr_rowindex.proofs.ZeroLemmas.{none-of-four}
use Rattle.dr_rowindex.proofs.row_set.RowSet.and_four.Goals as goal

pub keep_bits_of_four-self-inside-requires-clause-a : goal.keep_bits_of_four-self-inside-requires-clause-a
keep_bits_of_four-self-inside-requires-clause-a c =
    same-words c.args.self.now c.args.a.now c.self.inside.words.items c.a.inside.words.items c.as_mut_slice.result.now c.as_slice.result.now c.self.inside.count c.a.inside.count
    c.self.view_is c.a.view_is c.requires.a c.self.invariant.0 c.a.invariant.0 c.as_mut_slice.ensures.value c.as_slice.ensures.value

pub keep_bits_of_four-self-inside-requires-clause-b : goal.keep_bits_of_four-self-inside-requires-clause-b
keep_bits_of_four-self-inside-requires-clause-b c =
    same-words c.args.self.now c.args.b.now c.self.inside.words.items c.b.inside.words.items c.as_mut_slice.result.now c.as_slice-then-self.result.now c.self.inside.count c.b.inside.count
    c.self.view_is c.b.view_is c.requires.b c.self.invariant.0 c.b.invariant.0 c.as_mut_slice.ensures.value c.as_slice-then-self.ensures.value

pub keep_bits_of_four-self-inside-requires-clause-c : goal.keep_bits_of_four-self-inside-requires-clause-c
keep_bits_of_four-self-inside-requires-clause-c c =
    same-words c.args.self.now c.args.c.now c.self.inside.words.items c.c.inside.words.items c.as_mut_slice.result.now c.as_slice-then-self-2.result.now c.self.inside.count c.c.inside.count
    c.self.view_is c.c.view_is c.requires.c c.self.invariant.0 c.c.invariant.0 c.as_mut_slice.ensures.value c.as_slice-then-self-2.ensures.value

pub keep_bits_of_four-self-inside-requires-clause-d : goal.keep_bits_of_four-self-inside-requires-clause-d
keep_bits_of_four-self-inside-requires-clause-d c =
    same-words c.args.self.now c.args.d.now c.self.inside.words.items c.d.inside.words.items c.as_mut_slice.result.now c.as_slice-then-self-3.result.now c.self.inside.count c.d.inside.count
    c.self.view_is c.d.view_is c.requires.d c.self.invariant.0 c.d.invariant.0 c.as_mut_slice.ensures.value c.as_slice-then-self-3.ensures.value

pub returns-then-self-clause-count : goal.returns-then-self-clause-count
returns-then-self-clause-count c = length-truths _ c.self.inside.count ∙ sym (sym (ap length c.self.view_is) ∙ length-truths c.self.inside.words.items c.self.inside.count)

pub returns-then-self-clause-each : goal.returns-then-self-clause-each
returns-then-self-clause-each c = λ i lt.
    let self = c.args.self.now in
    let ws = c.self.inside.words.items in
    let n = c.self.inside.count in
    let after = c.keep_bits_of_four-self-inside.new.words in
    let na = same-count self c.args.a.now ws c.a.inside.words.items n c.a.inside.count c.self.view_is c.a.view_is c.requires.a in
    let nb = same-count self c.args.b.now ws c.b.inside.words.items n c.b.inside.count c.self.view_is c.b.view_is c.requires.b in
    let nc = same-count self c.args.c.now ws c.c.inside.words.items n c.c.inside.count c.self.view_is c.c.view_is c.requires.c in
    let nd = same-count self c.args.d.now ws c.d.inside.words.items n c.d.inside.count c.self.view_is c.d.view_is c.requires.d in
    let each = met-same ws c.a.inside.words.items c.b.inside.words.items c.c.inside.words.items c.d.inside.words.items
    c.as_mut_slice.result.now c.as_slice.result.now c.as_slice-then-self.result.now c.as_slice-then-self-2.result.now c.as_slice-then-self-3.result.now after
    c.as_mut_slice.ensures.value c.as_slice.ensures.value c.as_slice-then-self.ensures.value c.as_slice-then-self-2.ensures.value c.as_slice-then-self-3.ensures.value c.keep_bits_of_four-self-inside.ensures.each in
    ap (λ l. get_or (truths l n) i false) (with_items_is c.self.inside.words after (c.keep_bits_of_four-self-inside.ensures.count ∙ c.as_mut_slice.ensures.len))
    ∙ four-sets self c.args.a.now c.args.b.now c.args.c.now c.args.d.now ws c.a.inside.words.items c.b.inside.words.items c.c.inside.words.items c.d.inside.words.items after
    n c.a.inside.count c.b.inside.count c.c.inside.count c.d.inside.count c.self.view_is c.a.view_is c.b.view_is c.c.view_is c.d.view_is na nb nc nd c.self.invariant.0 each i lt

pub returns-else-self-clause-each : goal.returns-else-self-clause-each
returns-else-self-clause-each c = none-of-four c.args.self.now c.args.a.now c.args.b.now c.args.c.now c.args.d.now c.self.inside.words.items c.self.inside.count c.self.view_is (c.self.invariant.1 c.if-self.false)
