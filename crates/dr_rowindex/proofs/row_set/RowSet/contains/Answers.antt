use Rattle.std.proofs.Common.{◌∙◌, sym, ap, length, false, get_or, ◌/◌, ◌%◌}
use Rattle.std.proofs.lemmas.List.{get_or_default}
use Rattle.dr_rowindex.specs.Truths.{has_bit}
use Rattle.dr_rowindex.proofs.TruthLemmas.{truth-at, truth-behind, word-within}
use Rattle.dr_rowindex.proofs.row_set.RowSet.contains.Goals as goal

pub returns-then-row-self : goal.returns-then-row-self
returns-then-row-self c = truth-behind c.self.inside.words.items c.self.inside.count c.args.row c.if-row-self.true ∙ ap (λ l. get_or l c.args.row false) c.self.view_is

pub returns : goal.returns
returns c =
    let lt = c.if-row-self.false in
    let long = c.self.invariant.0 in
    c.is_set.ensures
    ∙ ap (λ w. has_bit w (c.args.row % 64)) (c.index.ensures ∙ get_or_default c.self.inside.words.items (c.args.row / 64) c.index.result.now 0 (word-within c.self.inside.count c.args.row (length c.self.inside.words.items) lt long))
    ∙ sym (truth-at c.self.inside.words.items c.self.inside.count c.args.row lt) ∙ ap (λ l. get_or l c.args.row false) c.self.view_is
