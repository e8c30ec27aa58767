-- Reading the names of a scan's columns one after the other, as a loop does.
use Rattle.std.proofs.Common.{◌≡◌, ℕ, ◌+◌, ◌<◌, ◌≤◌, List, [], ◌∷◌, ◌++◌, length, drop, get_or, Result, Ok, Err, refl, sym, ◌∙◌}
use Rattle.std.proofs.lemmas.List.{drop_more, drop_all}
use Rattle.serde_json.specs.declared.value.Value.{Value}
use Rattle.serde_json.specs.View.{view, items_view}
use Rattle.dr_base.specs.Reading.{FailsUnless}
use Rattle.dr_ask.specs.declared.query_error.QueryError.{QueryError}
use Rattle.dr_ask.specs.ColumnsOf.{name_of, names_from}
use Rattle.dr_ask.specs.Refusal.{is_memory}

module _ (seen : List (List ℕ)) (vs : List Value) (i : ℕ) (v : Value) (whole : Result (List (List ℕ)) QueryError) (lt : i < length vs) (is : v ≡ get_or vs i v) (so_far : names_from seen (items_view (drop i vs)) ≡ whole) where
  -- one more name is read
  pub names_from-goes_on : (name : List ℕ) → name_of seen (view v) ≡ Ok name → names_from (seen ++ name ∷ []) (items_view (drop (i + 1) vs)) ≡ whole
  unfolding names_from
  names_from-goes_on name h =
      let e : names_from seen (items_view (drop i vs)) ≡ names_from (seen ++ name ∷ []) (items_view (drop (i + 1) vs)) = rw (drop_more vs i v lt, ← is, h) refl in
      sym e ∙ so_far

  -- a member is refused
  pub names_from-stops : (e : QueryError) → FailsUnless is_memory e (name_of seen (view v)) → FailsUnless is_memory e whole
  unfolding names_from
  names_from-stops e h = λ m.
      let refused : name_of seen (view v) ≡ Err e = h m in
      let one : names_from seen (items_view (drop i vs)) ≡ Err e = rw (drop_more vs i v lt, ← is, refused) refl in
      sym so_far ∙ one

-- all members are read
pub names_from-ends : (seen : List (List ℕ)) (vs : List Value) (i : ℕ) (whole : Result (List (List ℕ)) QueryError) → length vs ≤ i → names_from seen (items_view (drop i vs)) ≡ whole → whole ≡ Ok seen
unfolding names_from
names_from-ends seen vs i whole le so_far =
    let none : drop i vs ≡ [] = drop_all i vs le in
    let one : names_from seen (items_view (drop i vs)) ≡ Ok seen = rw none refl in
    sym so_far ∙ one
