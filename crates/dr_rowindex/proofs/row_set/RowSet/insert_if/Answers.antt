use Rattle.std.proofs.Common.{◌≡◌, ◌∙◌, ap, ◌/◌, length, true, set}
use Rattle.std.proofs.lemmas.List.{get_or_default, set-get_or}
use Rattle.dr_rowindex.specs.Truths.{truths, has_bit}
use Rattle.dr_rowindex.proofs.TruthLemmas.{word-within, row-within, inserted}
use Rattle.dr_rowindex.proofs.row_set.RowSet.insert_if.Goals as goal
use Rattle.dr_rowindex.proofs.row_set.RowSet.insert_if.Goals.{then-told, else-told}

pub index-word-requires : goal.index-word-requires
index-word-requires c =
    let lt = row-within c.args.self.now c.self.inside.words.items c.self.inside.count c.args.row c.self.view_is c.requires in
    word-within c.self.inside.count c.args.row c.self.inside.words.len lt (c.self.inside.words.ok.0 ∙ c.self.invariant.0)

pub index_mut-requires : goal.index_mut-requires
index_mut-requires c =
    let lt = row-within c.args.self.now c.self.inside.words.items c.self.inside.count c.args.row c.self.view_is c.requires in
    word-within c.self.inside.count c.args.row c.self.inside.words.len lt (c.self.inside.words.ok.0 ∙ c.self.invariant.0)

pub returns-clause-passed : goal.returns-clause-passed
returns-clause-passed c = λ told.
    let words = c.self.inside.words.items in
    let count = c.self.inside.count in
    let row = c.args.row in
    let lt = row-within c.args.self.now words count row c.self.view_is c.requires in
    let word = c.index-word.ensures ∙ get_or_default words (row / 64) c.index-word.result.now 0 (word-within count row (length words) lt c.self.invariant.0) in
    let put : c.if-told.next ≡ c.with_bit-with.result = elim c.if-told.branch [ then-told w ↦ w.next-is | else-told w ↦ absurd (cc (told, w.if-told.false)) ] in
    ap (λ v. truths (set words (row / 64) v) count) put
    ∙ inserted words count row c.with_bit-with.result lt c.self.invariant.0 c.with_bit-with.ensures.same
    (λ j apart. c.with_bit-with.ensures.others j apart ∙ ap (λ w. has_bit w j) word)
    ∙ ap (λ l. set l row true) c.self.view_is

pub returns-clause-failed : goal.returns-clause-failed
returns-clause-failed c = λ told.
    let words = c.self.inside.words.items in
    let count = c.self.inside.count in
    let row = c.args.row in
    let put : c.if-told.next ≡ c.index-word.result.now = elim c.if-told.branch [ then-told w ↦ absurd (cc (told, w.if-told.true)) | else-told w ↦ w.next-is ] in
    ap (λ v. truths (set words (row / 64) v) count) (put ∙ c.index-word.ensures) ∙ ap (λ l. truths l count) (set-get_or words (row / 64) c.index-word.result.now) ∙ c.self.view_is
