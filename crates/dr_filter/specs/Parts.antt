-- What conditions tell that are all to hold, by what they ask. No public contract cites this file.
use Rattle.std.specs.Prelude.{ℕ, ℤ, Bool, not, ◌&&◌, List}
use Rattle.std.specs.List.{list_all}
use Rattle.dr_base.specs.Told.{told}
use Rattle.dr_predicate.specs.Asked.{tests_hold}
use Rattle.dr_filter.specs.declared.filter_tree.FilterTree.{FilterTree}
use Rattle.dr_filter.specs.declared.parts.Parts.{Parts}
use Rattle.dr_filter.specs.Condition.{condition_in, conditions_in, matches, every_matches}
use Rattle.dr_filter.specs.Times.{some_held, every_held}

abbrev pub parts_match : ℤ → List (List ℕ) → Parts → Bool
parts_match time dims p =
    tests_hold dims p.tests && (every_held time p.times.items && (not (some_held time p.no_times.items) && every_matches time dims (conditions_in p.others.items)))

-- all of some filters are to match, or none of them
abbrev pub all_told : ℤ → List (List ℕ) → Bool → List FilterTree → Bool
all_told time dims holds filters = list_all (λ f. told holds (matches time dims (condition_in f))) filters
