-- Names in turn, each looked up among those before it, as a loop does.
use Rattle.std.proofs.Common.{◌≡◌, ℕ, ◌+◌, ◌<◌, ◌≤◌, List, [], ◌∷◌, ◌++◌, length, drop, get_or, true, false, Result, Ok, Err, refl, sym, ◌∙◌}
use Rattle.std.proofs.lemmas.List.{drop_more, drop_all}
use Rattle.dr_spec.specs.declared.spec_error.SpecError.{SpecError}
use Rattle.dr_spec.specs.declared.spec_error.SpecError.TheVariants.{DuplicateName}
use Rattle.dr_spec.specs.Columns.{is_taken, distinct_after}

-- a name that is new
pub distinct_after-goes_on : (names before : List (List ℕ)) (i : ℕ) (name : List ℕ) (whole : Result (Unit {0}) SpecError) → i < length names → name ≡ get_or names i name → is_taken name before ≡ false
    → distinct_after before (drop i names) ≡ whole → distinct_after (before ++ name ∷ []) (drop (i + 1) names) ≡ whole
unfolding distinct_after
distinct_after-goes_on names before i name whole lt is test so_far =
    let e : distinct_after before (drop i names) ≡ distinct_after (before ++ name ∷ []) (drop (i + 1) names) = rw (drop_more names i name lt, ← is, test) refl in
    sym e ∙ so_far

-- a name that is taken
pub distinct_after-stops : (names before : List (List ℕ)) (i : ℕ) (name : List ℕ) (whole : Result (Unit {0}) SpecError) → i < length names → name ≡ get_or names i name → is_taken name before ≡ true
    → distinct_after before (drop i names) ≡ whole → whole ≡ Err (DuplicateName name)
unfolding distinct_after
distinct_after-stops names before i name whole lt is test so_far =
    let e : distinct_after before (drop i names) ≡ Err (DuplicateName name) = rw (drop_more names i name lt, ← is, test) refl in
    sym so_far ∙ e

pub distinct_after-ends : (names before : List (List ℕ)) (i : ℕ) (whole : Result (Unit {0}) SpecError) → length names ≤ i → distinct_after before (drop i names) ≡ whole → whole ≡ Ok tt
unfolding distinct_after
distinct_after-ends names before i whole le so_far =
    let none : drop i names ≡ [] = drop_all i names le in
    let one : distinct_after before (drop i names) ≡ Ok tt = rw none refl in
    sym so_far ∙ one
