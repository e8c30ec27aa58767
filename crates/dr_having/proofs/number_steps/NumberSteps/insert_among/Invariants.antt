use Rattle.std.proofs.Common.{◌≡◌, ◌&&◌, not, true, ℤ, drop}
use Rattle.dr_rowindex.specs.Orders.{Adds, reached}
use Rattle.dr_having.specs.Steps.{is_among, turned_by}
use Rattle.dr_having.proofs.StepLemmas.{IsBelow}
use Rattle.dr_having.proofs.number_steps.NumberSteps.insert_among.Given as goal

abbrev pub invariant-loop-cut : goal.invariant-loop-cut
invariant-loop-cut l =
    Adds (λ n. not (reached l.from n) && is_among l.self n) l.order l.initial.set l.set
    × (((n : ℤ) → reached l.from n ≡ true → turned_by l.within (drop l.cut-index l.self.cuts) n ≡ is_among l.self n)
    × IsBelow l.from (drop l.cut-index l.self.cuts))
