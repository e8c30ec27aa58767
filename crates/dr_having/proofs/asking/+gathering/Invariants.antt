use Rattle.std.proofs.Common.{◌≡◌, ◌&&◌, ℕ, ℤ, List, drop}
use Rattle.dr_having.specs.Gathered.{conjunction_meets, all_wanted}
use Rattle.dr_having.specs.Placed.{HaveNumbers}
use Rattle.dr_outputs.specs.Numbered.{numbers_by}
use Rattle.dr_having.proofs.asking.+gathering.Given as goal

abbrev pub invariant-put_each-loop-condition :
    goal.invariant-put_each-loop-condition
invariant-put_each-loop-condition l = (numbers : List ℕ) → HaveNumbers numbers l.places → (dims : List (List ℕ)) (values : List ℤ)
    → (conjunction_meets dims (numbers_by numbers values) l.asked && all_wanted l.holds dims (numbers_by numbers values) (drop l.condition-index l.conditions))
    ≡ (conjunction_meets dims (numbers_by numbers values) l.initial.asked && all_wanted l.holds dims (numbers_by numbers values) l.conditions)
