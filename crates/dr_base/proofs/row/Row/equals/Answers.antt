use Rattle.dr_base.proofs.Equality.{rows_decide}
use Rattle.std.proofs.Common.{◌∙◌, sym}
use Rattle.dr_base.proofs.row.Row.equals.Goals as goal

pub returns : goal.returns
returns c =
    let d = rows_decide c.args.self.now c.args.other.now in
    (λ h. d.0 (sym c.eq.ensures ∙ h), λ h. c.eq.ensures ∙ d.1 h)
