use Rattle.std.proofs.Common.{◌≡◌, ◌∙◌, refl, ap, sym, not, Bool, true, false, get_or}
use Rattle.dr_rowindex.proofs.ZeroLemmas.{zero-truth}
use Rattle.dr_rowindex.proofs.row_set.RowSet.has_none.Goals as goal

turned : (b : Bool) → not b ≡ true → b ≡ false
turned false is = refl
turned true is = absurd (cc is)

pub returns : goal.returns
returns c = λ none i.
    ap (λ l. get_or l i false) (sym c.self.view_is) ∙ zero-truth c.self.inside.words.items c.self.inside.count i (c.self.invariant.1 (turned c.self.inside.may_have none))
