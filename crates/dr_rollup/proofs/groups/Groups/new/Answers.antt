use Rattle.std.proofs.Common.{subst, sym, List, map, rules, [], ◌≡◌}
use Rattle.std.specs.List.{IsDistinct}
use Rattle.dr_base.specs.declared.row.Row.{Row}
use Rattle.dr_rollup.specs.Entries.{same_keys}
use Rattle.dr_rollup.specs.Placed.{AreFound}
use Rattle.dr_rollup.proofs.Adding.{no_keys}
use Rattle.dr_rollup.proofs.groups.Groups.new.Goals as goal

pub invariant_of-result : goal.invariant_of-result
invariant_of-result c =
    let none : c.new.result.items ≡ [] = search rules in
    subst (λ (l : List Row). AreFound (map (λ r. r.key) l) c.new-2.result × IsDistinct same_keys (map (λ r. r.key) l)) (sym none) (c.new-2.ensures, no_keys)
