-- Reading the values of an `in` one after the other, as a loop does.
use Rattle.std.proofs.Common.{◌≡◌, ◌∙◌, sym, refl, ap, Bool, true, false, not, ℕ, ◌+◌, ◌<◌, ◌≤◌, List, [], ◌∷◌, ◌++◌, length, drop, get_or, Result, Ok, Err, bytes_eq, if◌then◌else◌}
use Rattle.std.specs.List.{list_any}
use Rattle.std.specs.Prelude.{codes}
use Rattle.std.proofs.lemmas.List.{drop_more, drop_all}
use Rattle.serde_json.specs.declared.value.Value.{Value}
use Rattle.serde_json.specs.View.{view, items_view}
use Rattle.dr_base.specs.Reading.{FailsUnless}
use Rattle.dr_dict.specs.Dictionary.{with_text}
use Rattle.dr_filter.specs.declared.filter_error.FilterError.{FilterError}
use Rattle.dr_filter.specs.Refusal.{is_memory}
use Rattle.dr_filter.specs.Values.{value_of, distinct_from}

-- what a set is after a text was added to it
pub with_text-from_add : (old new : List (List ℕ)) (text : List ℕ) (is_new : Bool) → is_new ≡ not (list_any (bytes_eq text) old) → (is_new ≡ true → new ≡ old ++ text ∷ []) → (is_new ≡ false → new ≡ old) → new ≡ with_text old text
with_text-from_add old new text is_new told added same = at (list_any (bytes_eq text) old) refl
  where
    at : (b : Bool) → list_any (bytes_eq text) old ≡ b → new ≡ with_text old text
    at true is = same (told ∙ ap not is) ∙ sym (ap (λ b. if b then old else old ++ text ∷ []) is)
    at false is = added (told ∙ ap not is) ∙ sym (ap (λ b. if b then old else old ++ text ∷ []) is)

module _ (texts : List (List ℕ)) (vs : List Value) (i : ℕ) (whole : Result (List (List ℕ)) FilterError) where
  pub distinct_from-goes_on : (v : Value) (text : List ℕ) → i < length vs → v ≡ get_or vs i v → value_of (codes "values") (view v) ≡ Ok text
      → distinct_from texts (items_view (drop i vs)) ≡ whole → distinct_from (with_text texts text) (items_view (drop (i + 1) vs)) ≡ whole
  unfolding distinct_from
  distinct_from-goes_on v text lt is h so_far =
      let e : distinct_from texts (items_view (drop i vs)) ≡ distinct_from (with_text texts text) (items_view (drop (i + 1) vs)) = rw (drop_more vs i v lt, ← is, h) refl in
      sym e ∙ so_far

  pub distinct_from-stops : (v : Value) (e : FilterError) → i < length vs → v ≡ get_or vs i v
      → distinct_from texts (items_view (drop i vs)) ≡ whole → FailsUnless is_memory e (value_of (codes "values") (view v)) → FailsUnless is_memory e whole
  unfolding distinct_from
  distinct_from-stops v e lt is so_far h = λ m.
      let refused : value_of (codes "values") (view v) ≡ Err e = h m in
      let one : distinct_from texts (items_view (drop i vs)) ≡ Err e = rw (drop_more vs i v lt, ← is, refused) refl in
      sym so_far ∙ one

  pub distinct_from-ends : length vs ≤ i → distinct_from texts (items_view (drop i vs)) ≡ whole → whole ≡ Ok texts
  unfolding distinct_from
  distinct_from-ends le so_far =
      let none : drop i vs ≡ [] = drop_all i vs le in
      let one : distinct_from texts (items_view (drop i vs)) ≡ Ok texts = rw none refl in
      sym so_far ∙ one
