use Rattle.std.proofs.Common.{◌∙◌, ap, ◌/◌, length, true, set}
use Rattle.std.proofs.lemmas.List.{get_or_default}
use Rattle.dr_rowindex.specs.Truths.{has_bit}
use Rattle.dr_rowindex.proofs.TruthLemmas.{word-within, row-within, inserted}
use Rattle.dr_rowindex.proofs.row_set.RowSet.insert.Goals as goal

pub index-requires : goal.index-requires
index-requires c =
    let lt = row-within c.args.self.now c.self.inside.words.items c.self.inside.count c.args.row c.self.view_is c.requires in
    word-within c.self.inside.count c.args.row c.self.inside.words.len lt (c.self.inside.words.ok.0 ∙ c.self.invariant.0)

pub index_mut-requires : goal.index_mut-requires
index_mut-requires c =
    let lt = row-within c.args.self.now c.self.inside.words.items c.self.inside.count c.args.row c.self.view_is c.requires in
    word-within c.self.inside.count c.args.row c.self.inside.words.len lt (c.self.inside.words.ok.0 ∙ c.self.invariant.0)

pub returns : goal.returns
returns c =
    let words = c.self.inside.words.items in
    let count = c.self.inside.count in
    let row = c.args.row in
    let lt = row-within c.args.self.now words count row c.self.view_is c.requires in
    let word = c.index.ensures ∙ get_or_default words (row / 64) c.index.result.now 0 (word-within count row (length words) lt c.self.invariant.0) in
    inserted words count row c.with_bit.result lt c.self.invariant.0 c.with_bit.ensures.same
    (λ j apart. c.with_bit.ensures.others j apart ∙ ap (λ w. has_bit w j) word)
    ∙ ap (λ l. set l row true) c.self.view_is
