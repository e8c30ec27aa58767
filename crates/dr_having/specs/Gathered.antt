-- The conditions of a `having`, gathered into what is asked of each group. No public contract cites this file.
use Rattle.std.specs.Prelude.{◌≡◌, ℕ, ℤ, Bool, true, false, not, ◌&&◌, List, map}
use Rattle.std.specs.List.{list_all}
use Rattle.dr_having.specs.declared.conjunction.Conjunction.{Conjunction}
use Rattle.dr_having.specs.declared.having.Having.{Having}
use Rattle.dr_having.specs.Asked.{asked_meets}
use Rattle.dr_having.specs.Collected.{conditions_meet}
use Rattle.dr_having.specs.Condition.{Condition, Conditions, every, some, condition_in, meets}
use Rattle.dr_base.specs.Told.{told}
use Rattle.dr_having.specs.Placed.{HaveNumbers}
use Rattle.dr_outputs.specs.Numbered.{numbers_by}

-- all that was gathered holds
abbrev pub conjunction_meets : List (List ℕ) → List ℤ → Conjunction → Bool
conjunction_meets dims values c = conditions_meet dims values c.outputs && list_all not (map (asked_meets dims values) c.denied.items)

-- all of some conditions hold, or none does
abbrev pub all_wanted : Bool → List (List ℕ) → List ℤ → List Having → Bool
all_wanted holds dims values conditions = list_all (λ h. told holds (meets dims values (condition_in h))) conditions

-- the `and` of some conditions, or the `or`
abbrev pub joined : Bool → Conditions → Condition
joined true conditions = every conditions
joined false conditions = some conditions

-- one thing more is asked of groups whose outputs have the same values as those at these places
abbrev pub AsksMore : List ℕ → Conjunction → Conjunction → (List (List ℕ) → List ℤ → Bool) → Type 0
AsksMore places old new test = (numbers : List ℕ) → HaveNumbers numbers places → (dims : List (List ℕ)) (values : List ℤ)
    → conjunction_meets dims (numbers_by numbers values) new ≡ (conjunction_meets dims (numbers_by numbers values) old && test dims (numbers_by numbers values))
