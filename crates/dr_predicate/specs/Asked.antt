-- What is asked of the values of dimensions by tests of which some are to hold and others aren't.
use Rattle.std.specs.Prelude.{◌≡◌, ℕ, ◌<◌, Bool, true, false, not, ◌&&◌, List, Option, Some, None, length, get_or, bytes_eq}
use Rattle.std.specs.List.{list_any, list_all}
use Rattle.dr_base.specs.Told.{told}
use Rattle.dr_patterns.specs.Each.{fits_all}
use Rattle.dr_patterns.specs.Fitting.{fits_some}
use Rattle.dr_predicate.specs.declared.apart.Apart.{Apart}
use Rattle.dr_predicate.specs.declared.asked_texts.AskedTexts.{AskedTexts}
use Rattle.dr_predicate.specs.declared.asked_texts.AskedTexts.TheVariants.{One, Several}
use Rattle.dr_predicate.specs.declared.value_tests.ValueTests.{ValueTests}
use Rattle.dr_predicate.specs.declared.bounds.Bounds.{Bounds}
use Rattle.dr_predicate.specs.declared.limits.Limits.{Limits}
use Rattle.dr_predicate.specs.declared.told_test.ToldTest.{ToldTest}
use Rattle.dr_predicate.specs.declared.told_dimension.ToldDimension.{ToldDimension}
use Rattle.dr_predicate.specs.declared.asked_dimension.AskedDimension.{AskedDimension}
use Rattle.dr_predicate.specs.declared.dimension_tests.DimensionTests.{DimensionTests}
use Rattle.dr_predicate.specs.Match.{passes, holds_of, value_at, lies_within, some_within}

-- ---- of one value

abbrev pub is_among : AskedTexts → List ℕ → Bool
is_among (One text) value = bytes_eq value text
is_among (Several texts) value = list_any (bytes_eq value) texts

-- it is among texts, where any are asked for
abbrev pub is_asked : Option AskedTexts → List ℕ → Bool
is_asked None value = true
is_asked (Some texts) value = is_among texts value

-- it is among texts, where any are denied
abbrev pub is_denied : Option AskedTexts → List ℕ → Bool
is_denied None value = false
is_denied (Some texts) value = is_among texts value

-- it lies in a range, is none of some texts, and lies in none of some other ranges
abbrev pub is_limited : Bounds → Option AskedTexts → List Bounds → List ℕ → Bool
is_limited within no_texts no_ranges value = (lies_within within value && not (is_denied no_texts value)) && not (some_within no_ranges value)

abbrev pub lets_through : Limits → List ℕ → Bool
lets_through l value = is_limited l.within l.no_texts l.no_ranges value

-- each of some tests holds that is to, and no other
abbrev pub all_told : List ToldTest → List ℕ → Bool
all_told tests value = list_all (λ t. told t.holds (passes t.test value)) tests

-- it fits each of some patterns and none of some others, and each of some other tests tells what it is to
abbrev pub apart_told : Apart → List ℕ → Bool
apart_told a value = (fits_all a.patterns.items value && not (fits_some a.no_patterns.items value)) && all_told a.others.items value

abbrev pub all_asked : ValueTests → List ℕ → Bool
all_asked a value = (is_asked a.texts value && is_limited a.within a.no_texts a.no_ranges.items value) && apart_told a.apart value

-- ---- of the values of all dimensions

abbrev pub asked_at : List (List ℕ) → AskedDimension → Bool
asked_at dims a = all_asked a.tests (value_at a.place dims)

abbrev pub tests_hold : List (List ℕ) → DimensionTests → Bool
tests_hold dims t = not t.never && list_all (asked_at dims) t.asked.items

abbrev pub dimensions_told : List (List ℕ) → List ToldDimension → Bool
dimensions_told dims tests = list_all (λ t. told t.holds (holds_of t.test dims)) tests

-- what is asked of a dimension stands at a place in a list
abbrev pub IsAskedAt : List AskedDimension → ℕ → Option ℕ → Type 0
IsAskedAt asked i place = (i < length asked) × ((a : AskedDimension) → (get_or asked i a).place ≡ place)
