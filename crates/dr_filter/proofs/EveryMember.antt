-- One member more of an `and`, and what all of some filters tell.
use Rattle.std.proofs.Common.{◌≡◌, ◌∙◌, refl, ap, ℕ, ℤ, Bool, true, false, not, ◌||◌, ◌&&◌, List, [], ◌∷◌, ◌++◌, map}
use Rattle.std.proofs.lemmas.List.{map-append}
use Rattle.dr_base.proofs.Truths.{and_regroups, and_swaps, and_true}
use Rattle.dr_filter.specs.declared.filter_tree.FilterTree.{FilterTree}
use Rattle.dr_filter.specs.Condition.{Condition, condition_in, conditions_in, conditions_of, matches, every_matches, some_matches}
use Rattle.dr_filter.specs.declared.parts.Parts.{Parts}
use Rattle.dr_filter.specs.Parts.{all_told, parts_match}
use Rattle.dr_filter.specs.Times.{some_held, every_held}
use Rattle.dr_predicate.specs.Asked.{tests_hold}
use Rattle.dr_predicate.specs.declared.dimension_tests.DimensionTests.{DimensionTests}

module _ (time : ℤ) (dims : List (List ℕ)) where
  every-append : (cs ds : List Condition) → every_matches time dims (conditions_of (cs ++ ds)) ≡ (every_matches time dims (conditions_of cs) && every_matches time dims (conditions_of ds))
  every-append [] ds = refl
  every-append (c ∷ cs) ds =
      ap (λ b. matches time dims c && b) (every-append cs ds) ∙ and_regroups (matches time dims c) (every_matches time dims (conditions_of cs)) (every_matches time dims (conditions_of ds))

  -- some filters behind others
  pub every-behind : (fs gs : List FilterTree) → every_matches time dims (conditions_in (fs ++ gs)) ≡ (every_matches time dims (conditions_in fs) && every_matches time dims (conditions_in gs))
  every-behind fs gs = ap (λ l. every_matches time dims (conditions_of l)) (map-append condition_in fs gs) ∙ every-append (map condition_in fs) (map condition_in gs)

  pub every-one-behind : (fs all : List FilterTree) (f : FilterTree) → all ≡ fs ++ f ∷ [] → every_matches time dims (conditions_in all) ≡ (every_matches time dims (conditions_in fs) && matches time dims (condition_in f))
  every-one-behind fs all f is =
      ap (λ l. every_matches time dims (conditions_in l)) is ∙ every-behind fs (f ∷ [])
      ∙ ap (λ b. every_matches time dims (conditions_in fs) && b) (and_true (matches time dims (condition_in f)))

  -- all of some filters are to hold, or none of them
  pub all-hold : (fs : List FilterTree) → all_told time dims true fs ≡ every_matches time dims (conditions_in fs)
  all-hold [] = refl
  all-hold (f ∷ fs) = ap (λ b. matches time dims (condition_in f) && b) (all-hold fs)

  pub none-holds : (fs : List FilterTree) → all_told time dims false fs ≡ not (some_matches time dims (conditions_in fs))
  none-holds [] = refl
  none-holds (f ∷ fs) = ap (λ b. not (matches time dims (condition_in f)) && b) (none-holds fs) ∙ neither (matches time dims (condition_in f)) (some_matches time dims (conditions_in fs))
    where
      neither : (a b : Bool) → (not a && not b) ≡ not (a || b)
      neither true b = refl
      neither false b = refl

  -- one filter more that stands apart
  pub one-part-more : (p : Parts) (after one : Bool) → after ≡ (every_matches time dims (conditions_in p.others.items) && one)
      → (tests_hold dims p.tests && (every_held time p.times.items && (not (some_held time p.no_times.items) && after))) ≡ (parts_match time dims p && one)
  one-part-more p after one more =
      ap (λ b. tests_hold dims p.tests && (every_held time p.times.items && (not (some_held time p.no_times.items) && b))) more
      ∙ fourth (tests_hold dims p.tests) (every_held time p.times.items) (not (some_held time p.no_times.items)) (every_matches time dims (conditions_in p.others.items)) one
    where
      fourth : (a b c d x : Bool) → (a && (b && (c && (d && x)))) ≡ ((a && (b && (c && d))) && x)
      fourth true true true d x = refl
      fourth true true false d x = refl
      fourth true false c d x = refl
      fourth false b c d x = refl

  -- one more thing that is known of each row
  pub one-known-more : (p : Parts) (tests : DimensionTests) (known : Bool) → tests_hold dims tests ≡ (tests_hold dims p.tests && known) → parts_match time dims (record p { tests = tests }) ≡ (parts_match time dims p && known)
  one-known-more p tests known more =
      let rest = every_held time p.times.items && (not (some_held time p.no_times.items) && every_matches time dims (conditions_in p.others.items)) in
      ap (λ b. b && rest) more ∙ and_swaps (tests_hold dims p.tests) known rest

pub not-not : (a : Bool) → not (not a) ≡ a
not-not true = refl
not-not false = refl
