-- Looking each name up among those before it, as a loop does.
use Rattle.std.proofs.Common.{◌≡◌, ◌∙◌, sym, refl, append_assoc, ℕ, ◌+◌, ◌<◌, ◌≤◌, Bool, true, false, not, List, [], ◌∷◌, ◌++◌, length, drop, take, get_or, Result, Ok, Err, bytes_eq}
use Rattle.std.specs.List.{list_any}
use Rattle.std.proofs.lemmas.List.{drop_more, drop_all, take_more}
use Rattle.dr_ask.specs.declared.query_error.QueryError.{QueryError}
use Rattle.dr_ask.specs.declared.query_error.QueryError.TheVariants.{DuplicateOutput}
use Rattle.dr_ask.specs.Outputs.{distinct_from}

pub stood : (stands is_new : Bool) → is_new ≡ not stands → is_new ≡ false → stands ≡ true
stood true is_new told none = refl
stood false is_new told none = absurd (cc)

pub did_not_stand : (stands is_new : Bool) → is_new ≡ not stands → is_new ≡ true → stands ≡ false
did_not_stand false is_new told some = refl
did_not_stand true is_new told some = absurd (cc)

module _ (names : List (List ℕ)) (i : ℕ) (n : List ℕ) (seen : List (List ℕ)) (whole : Result (Unit {0}) QueryError) (lt : i < length names) (is : n ≡ get_or names i n) where
  -- a name that is new
  pub distinct_from-goes_on : list_any (bytes_eq n) seen ≡ false → distinct_from seen (drop i names) ≡ whole → distinct_from (seen ++ n ∷ []) (drop (i + 1) names) ≡ whole
  unfolding distinct_from
  distinct_from-goes_on test so_far =
      let e : distinct_from seen (drop i names) ≡ distinct_from (seen ++ n ∷ []) (drop (i + 1) names) = rw (drop_more names i n lt, ← is, test) refl in
      sym e ∙ so_far

  -- a name that stood before
  pub distinct_from-stops : list_any (bytes_eq n) seen ≡ true → distinct_from seen (drop i names) ≡ whole → whole ≡ Err (DuplicateOutput n)
  unfolding distinct_from
  distinct_from-stops test so_far =
      let e : distinct_from seen (drop i names) ≡ Err (DuplicateOutput n) = rw (drop_more names i n lt, ← is, test) refl in
      sym so_far ∙ e

  pub added_more : (first : List (List ℕ)) → seen ≡ first ++ take i names → seen ++ n ∷ [] ≡ first ++ take (i + 1) names
  added_more first h = rw (take_more names i n lt, ← is, h) (append_assoc first (take i names) (n ∷ []))

pub distinct_from-ends : (names : List (List ℕ)) (i : ℕ) (seen : List (List ℕ)) (whole : Result (Unit {0}) QueryError) → length names ≤ i → distinct_from seen (drop i names) ≡ whole → whole ≡ Ok tt
unfolding distinct_from
distinct_from-ends names i seen whole le so_far =
    let none : drop i names ≡ [] = drop_all i names le in
    let e : distinct_from seen (drop i names) ≡ Ok tt = rw none refl in
    sym so_far ∙ e
