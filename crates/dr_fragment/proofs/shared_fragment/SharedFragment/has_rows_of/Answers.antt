use Rattle.std.proofs.Common.{ap}
use Rattle.dr_agg.specs.Rollup.{rows_at}
use Rattle.dr_fragment.proofs.SameKeys.{same_where_alike, alike_where_same}
use Rattle.dr_fragment.proofs.shared_fragment.SharedFragment.has_rows_of.Goals as goal

pub returns-then-are_equal : goal.returns-then-are_equal
returns-then-are_equal c =
    let same = c.are_equal.ensures.0 c.if-are_equal.true in (
      λ h. same_where_alike c.lying-rows.result c.lying-others.result c.args.self.now.rows c.args.other.now.rows c.lying-rows.ensures.alike c.lying-others.ensures.alike c.lying-rows.ensures.ordered c.lying-others.ensures.ordered (λ q. ap (rows_at q) same),
      λ e. cc,
    )

pub returns : goal.returns
returns c = (
  λ h. same_where_alike c.lying-rows.result c.lying-others.result c.args.self.now.rows c.args.other.now.rows c.lying-rows.ensures.alike c.lying-others.ensures.alike c.lying-rows.ensures.ordered c.lying-others.ensures.ordered (c.are_alike.ensures.0 h),
  λ e. c.are_alike.ensures.1 (alike_where_same c.lying-rows.result c.lying-others.result c.args.self.now.rows c.args.other.now.rows c.lying-rows.ensures.alike c.lying-others.ensures.alike e),
)
