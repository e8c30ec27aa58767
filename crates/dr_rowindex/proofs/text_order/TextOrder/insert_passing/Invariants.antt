use Rattle.std.proofs.Common.{◌≡◌, ◌<◌, ◌-◌, ℕ, [], get_or, take}
use Rattle.dr_predicate.specs.Match.{passes}
use Rattle.dr_rowindex.proofs.PutLemmas.{PutWhere}
use Rattle.dr_rowindex.proofs.text_order.TextOrder.insert_passing.Given as goal

abbrev pub invariant-loop-k : goal.invariant-loop-k
invariant-loop-k l =
    ((r : ℕ) → 0 < l.k → l.passed ≡ passes l.test (get_or l.self (get_or l.rows (l.k - 1) r) []))
    × PutWhere (λ r. passes l.test (get_or l.self r [])) (take l.k l.rows) l.initial.set l.set
