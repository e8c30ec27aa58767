use Rattle.std.proofs.Common.{◌∙◌, sym}
use Rattle.std.proofs.lemmas.Slice.Eq.{slice_eq-Decides}
use Rattle.dr_base.proofs.Equality.{rows_decide}
use Rattle.dr_fragment.proofs.rows.Rows.equals.Goals as goal

pub returns : goal.returns
returns c =
    let d = slice_eq-Decides rows_decide c.self.inside.0.items c.other.inside.0.items c.eq.result c.eq.ensures in
    (λ h. sym c.self.view_is ∙ d.0 h ∙ c.other.view_is, λ h. d.1 (c.self.view_is ∙ h ∙ sym c.other.view_is))
