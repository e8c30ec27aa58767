-- Conditions of a `having` that are gathered into what is asked of each group, one after the other.
use Rattle.std.proofs.Common.{◌≡◌, ◌∙◌, sym, refl, ap, ℕ, ℤ, Bool, true, false, not, ◌||◌, ◌&&◌, List, [], ◌∷◌, length, map, Result, Ok, Err, OnOk, arith}
use Rattle.std.specs.Bool.{beq}
use Rattle.std.specs.List.{list_all}
use Rattle.dr_base.proofs.Truths.{and_swaps, and_true, or_false}
use Rattle.dr_having.specs.declared.asked_having.AskedHaving.{AskedHaving}
use Rattle.dr_having.specs.declared.conjunction.Conjunction.{Conjunction}
use Rattle.dr_having.specs.declared.group_value.GroupValue.{GroupValue}
use Rattle.dr_having.specs.declared.having.Having.{Having}
use Rattle.dr_having.specs.declared.output_conditions.OutputConditions.{OutputConditions}
use Rattle.dr_having.specs.Asked.{asked_meets}
use Rattle.dr_having.specs.Collected.{conditions_meet}
use Rattle.dr_having.specs.Condition.{condition_in, conditions_of, meets, meets_every, meets_some}
use Rattle.dr_having.specs.Gathered.{conjunction_meets, all_wanted, joined, AsksMore}
use Rattle.dr_having.specs.Meeting.{meets_value}
use Rattle.dr_base.specs.Told.{told}
use Rattle.dr_having.specs.Placed.{value_placed}
use Rattle.dr_outputs.specs.Numbered.{numbers_by}
use Rattle.dr_having.proofs.Placing.{meets-placed}

pub outputs-more : {E : Type 0} (old : Conjunction) (outputs : OutputConditions) (test : List (List ℕ) → List ℤ → Bool) (r : Result (Unit {0}) E)
    → OnOk r ((dims : List (List ℕ)) (values : List ℤ) → conditions_meet dims values outputs ≡ (conditions_meet dims values old.outputs && test dims values))
    → OnOk r ((dims : List (List ℕ)) (values : List ℤ) → conjunction_meets dims values (record old { outputs = outputs }) ≡ (conjunction_meets dims values old && test dims values))
outputs-more old outputs test (Ok u) h = λ dims values.
    let denied = list_all not (map (asked_meets dims values) old.denied.items) in
    ap (λ b. b && denied) (h dims values) ∙ and_swaps (conditions_meet dims values old.outputs) (test dims values) denied
outputs-more old outputs test (Err e) h = tt

none-denied : (dims : List (List ℕ)) (values : List ℤ) (denied : List AskedHaving) → length denied ≡ 0 → list_all not (map (asked_meets dims values) denied) ≡ true
none-denied dims values [] none = refl
none-denied dims values (a ∷ denied) none = absurd (omega (arith, none))

pub outputs-alone : (dims : List (List ℕ)) (values : List ℤ) (c : Conjunction) → length c.denied.items ≡ 0 → conjunction_meets dims values c ≡ conditions_meet dims values c.outputs
outputs-alone dims values c none =
    ap (λ b. conditions_meet dims values c.outputs && b) (none-denied dims values c.denied.items none) ∙ and_true (conditions_meet dims values c.outputs)

-- the same is told in other words
pub told-more : {E : Type 0} (old new : Conjunction) (test other : List (List ℕ) → List ℤ → Bool) (r : Result (Unit {0}) E) → ((dims : List (List ℕ)) (values : List ℤ) → test dims values ≡ other dims values)
    → OnOk r ((dims : List (List ℕ)) (values : List ℤ) → conjunction_meets dims values new ≡ (conjunction_meets dims values old && test dims values))
    → OnOk r ((dims : List (List ℕ)) (values : List ℤ) → conjunction_meets dims values new ≡ (conjunction_meets dims values old && other dims values))
told-more old new test other (Ok u) same more = λ dims values. more dims values ∙ ap (λ b. conjunction_meets dims values old && b) (same dims values)
told-more old new test other (Err e) same more = tt

-- what is told at the call with the values that these outputs have
pub denied-more : {E : Type 0} (places : List ℕ) (old new none inner : Conjunction) (test : List (List ℕ) → List ℤ → Bool) (r : Result (Unit {0}) E)
    → ((dims : List (List ℕ)) (values : List ℤ) → conjunction_meets dims values none ≡ true) → AsksMore places none inner test
    → OnOk r ((dims : List (List ℕ)) (values : List ℤ) → conjunction_meets dims values new ≡ (conjunction_meets dims values old && not (conjunction_meets dims values inner)))
    → OnOk r (AsksMore places old new (λ dims values. not (test dims values)))
denied-more places old new none inner test (Ok u) empty more denied = λ numbers have dims values.
    let by = numbers_by numbers values in
    denied dims by ∙ ap (λ b. conjunction_meets dims by old && not b) (more numbers have dims values ∙ ap (λ b. b && test dims by) (empty dims by))
denied-more places old new none inner test (Err e) empty more denied = tt

pub number-more : {E : Type 0} (places : List ℕ) (old new : Conjunction) (c : GroupValue) (holds : Bool) (r : Result (Unit {0}) E)
    → OnOk r ((dims : List (List ℕ)) (values : List ℤ) → conjunction_meets dims values new ≡ (conjunction_meets dims values old && told holds (meets_value (value_placed places c) values)))
    → OnOk r (AsksMore places old new (λ dims values. told holds (meets_value c values)))
number-more places old new c holds (Ok u) more = λ numbers have dims values.
    more dims (numbers_by numbers values) ∙ ap (λ b. conjunction_meets dims (numbers_by numbers values) old && told holds b) (meets-placed numbers places c have values)
number-more places old new c holds (Err e) more = tt

-- the same is asked in other words
pub same-more : {E : Type 0} (places : List ℕ) (old new : Conjunction) (test other : List (List ℕ) → List ℤ → Bool) (r : Result (Unit {0}) E) → ((dims : List (List ℕ)) (values : List ℤ) → test dims values ≡ other dims values)
    → OnOk r (AsksMore places old new test) → OnOk r (AsksMore places old new other)
same-more places old new test other (Ok u) same more = λ numbers have dims values.
    let by = numbers_by numbers values in
    more numbers have dims values ∙ ap (λ b. conjunction_meets dims by old && b) (same dims by)
same-more places old new test other (Err e) same more = tt

neither_one : (a b : Bool) → not (a || b) ≡ (not a && not b)
neither_one a b = grind (arith)

not_not : (a : Bool) → not (not a) ≡ a
not_not a = grind (arith)

pub same_one : (a b : Bool) → beq a b ≡ true → b ≡ a
same_one a b same = grind (arith)

pub other_one : (a b : Bool) → beq a b ≡ false → not a ≡ b
other_one a b differ = grind (arith)

pub opposite-wanted : (holds met : Bool) → told (not holds) met ≡ told holds (not met)
opposite-wanted true met = refl
opposite-wanted false met = sym (not_not met)

module _ (dims : List (List ℕ)) (values : List ℤ) where
  every-wanted : (conditions : List Having) → meets_every dims values (conditions_of (map condition_in conditions)) ≡ all_wanted true dims values conditions
  every-wanted [] = refl
  every-wanted (h ∷ hs) = ap (λ b. meets dims values (condition_in h) && b) (every-wanted hs)

  none-wanted : (conditions : List Having) → not (meets_some dims values (conditions_of (map condition_in conditions))) ≡ all_wanted false dims values conditions
  none-wanted [] = refl
  none-wanted (h ∷ hs) = neither_one (meets dims values (condition_in h)) (meets_some dims values (conditions_of (map condition_in hs))) ∙ ap (λ b. not (meets dims values (condition_in h)) && b) (none-wanted hs)

  module _ (conditions : List Having) where
    -- an `and` that holds, or an `or` that doesn't
    pub joined-wanted : (all : Bool) → all_wanted all dims values conditions ≡ told all (meets dims values (joined all (conditions_of (map condition_in conditions))))
    joined-wanted true = sym (every-wanted conditions)
    joined-wanted false = sym (none-wanted conditions)

    -- an `and` that doesn't hold, or an `or` that does
    pub joined-denied : (all : Bool) → not (all_wanted all dims values conditions) ≡ told (not all) (meets dims values (joined all (conditions_of (map condition_in conditions))))
    joined-denied true = ap not (sym (every-wanted conditions))
    joined-denied false = ap not (sym (none-wanted conditions)) ∙ not_not (meets_some dims values (conditions_of (map condition_in conditions)))

  -- of one condition alone both say the same
  pub alone-wanted : (conditions : List Having) (all holds : Bool) → length conditions ≡ 1 → all_wanted holds dims values conditions ≡ told holds (meets dims values (joined all (conditions_of (map condition_in conditions))))
  alone-wanted [] all holds one = absurd (omega (arith, one))
  alone-wanted (h ∷ []) true holds one = and_true (told holds (meets dims values (condition_in h))) ∙ ap (told holds) (sym (and_true (meets dims values (condition_in h))))
  alone-wanted (h ∷ []) false holds one = and_true (told holds (meets dims values (condition_in h))) ∙ ap (told holds) (sym (or_false (meets dims values (condition_in h))))
  alone-wanted (h ∷ g ∷ hs) all holds one = absurd (omega (arith, one))
