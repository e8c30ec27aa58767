use Rattle.std.proofs.Common.{◌∙◌, sym, ap}
use Rattle.dr_base.specs.declared.row.Row.{Row}
use Rattle.dr_fragment.proofs.SameRows.{same_row, compared}
use Rattle.dr_fragment.proofs.row_ref.RowRef.equals.Goals as goal

pub returns-in-Equal : goal.returns-in-Equal
returns-in-Equal c = (
  λ h. same_row c.args.self.now c.args.other.now (sym c.order.ensures ∙ c.in-Equal.is) (c.are_metrics_equal.ensures.0 h),
  λ same. c.are_metrics_equal.ensures.1 (ap (λ (r : Row). r.metrics) same),
)

pub returns-in-Less : goal.returns-in-Less
returns-in-Less c = (λ h. absurd cc, λ same. let e = sym c.in-Less.is ∙ compared c.args.self.now c.args.other.now c.order.result (sym c.order.ensures) same in absurd cc)

pub returns-in-Greater : goal.returns-in-Greater
returns-in-Greater c = (λ h. absurd cc, λ same. let e = sym c.in-Greater.is ∙ compared c.args.self.now c.args.other.now c.order.result (sym c.order.ensures) same in absurd cc)
