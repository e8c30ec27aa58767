use Rattle.std.proofs.Common.{◌∙◌, sym, ap, subst}
use Rattle.dr_agg.specs.Rollup.{rows_at, IsInOrder}
use Rattle.dr_fragment.specs.Ranged.{Ranged}
use Rattle.dr_fragment.specs.Shared.{range_shared}
use Rattle.dr_fragment.proofs.SameKeys.{in_order_alike, in_order_is}
use Rattle.dr_fragment.proofs.shared_fragment.SharedFragment.lying.Goals as goal

pub returns-in-Indexed-clause-alike : goal.returns-in-Indexed-clause-alike
returns-in-Indexed-clause-alike c q =
    let rows = ap (λ (r : Ranged). r.rows) (sym (ap range_shared c.in-Indexed.is) ∙ c.self.view_is) in
    rw c.arrived-in-Indexed.ensures (in_order_alike c.arrived.result q ∙ ap (rows_at q) (c.arrived.ensures ∙ rows))

pub returns-in-Indexed-clause-ordered : goal.returns-in-Indexed-clause-ordered
returns-in-Indexed-clause-ordered c =
    let rows = ap (λ (r : Ranged). r.rows) (sym (ap range_shared c.in-Indexed.is) ∙ c.self.view_is) in
    subst IsInOrder (c.arrived.ensures ∙ rows) (in_order_is c.arrived.result)
