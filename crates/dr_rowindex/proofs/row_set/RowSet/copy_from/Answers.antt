use Rattle.std.proofs.Common.{◌∙◌, sym, ap}
use Rattle.std.proofs.lemmas.List.{with_items_is}
use Rattle.dr_rowindex.specs.Truths.{truths}
use Rattle.dr_rowindex.proofs.TruthLemmas.{same-words, same-count}
use Rattle.dr_rowindex.proofs.row_set.RowSet.copy_from.Goals as goal

pub copy_from_slice-requires : goal.copy_from_slice-requires
copy_from_slice-requires c =
    sym (same-words c.args.self.now c.args.other.now c.self.inside.words.items c.other.inside.words.items c.as_mut_slice-words.result.now c.as_slice.result.now c.self.inside.count c.other.inside.count
    c.self.view_is c.other.view_is c.requires c.self.invariant.0 c.other.invariant.0 c.as_mut_slice-words.ensures.value c.as_slice.ensures.value)

pub returns : goal.returns
returns c =
    let count = same-count c.args.self.now c.args.other.now c.self.inside.words.items c.other.inside.words.items c.self.inside.count c.other.inside.count c.self.view_is c.other.view_is c.requires in
    ap (λ l. truths l c.self.inside.count) (with_items_is c.self.inside.words c.copy_from_slice.new.self (c.copy_from_slice.ensures.len ∙ c.as_mut_slice-words.ensures.len) ∙ c.copy_from_slice.ensures.after ∙ c.as_slice.ensures.value)
    ∙ ap (truths c.other.inside.words.items) (sym count) ∙ c.other.view_is
