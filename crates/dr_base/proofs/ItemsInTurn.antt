-- Reading items one after the other, as a loop does.
use Rattle.std.proofs.Common.{Bool, ◌≡◌, ℕ, ◌+◌, ◌<◌, ◌≤◌, List, [], ◌∷◌, ◌++◌, length, drop, get_or, Result, Ok, Err, refl, sym, ◌∙◌}
use Rattle.std.proofs.lemmas.List.{drop_more, drop_all}
use Rattle.serde_json.specs.Data.{Data}
use Rattle.serde_json.specs.declared.value.Value.{Value}
use Rattle.serde_json.specs.View.{view, items_view}
use Rattle.dr_base.specs.Reading.{FailsUnless}
use Rattle.dr_base.specs.Each.{each_from}

-- one more item is read
pub each_from-goes_on : {A E : Type 0} (reading : Data → Result A E) (xs : List A) (vs : List Value) (i : ℕ) (v : Value) (x : A) (whole : Result (List A) E) → i < length vs → v ≡ get_or vs i v → reading (view v) ≡ Ok x
    → each_from reading xs (items_view (drop i vs)) ≡ whole → each_from reading (xs ++ x ∷ []) (items_view (drop (i + 1) vs)) ≡ whole
unfolding each_from
each_from-goes_on reading xs vs i v x whole lt is h so_far =
    let e : each_from reading xs (items_view (drop i vs)) ≡ each_from reading (xs ++ x ∷ []) (items_view (drop (i + 1) vs)) = rw (drop_more vs i v lt, ← is, h) refl in
    sym e ∙ so_far

-- an item is refused
pub each_from-stops : {A E : Type 0} (is_memory : E → Bool) (reading : Data → Result A E) (xs : List A) (vs : List Value) (i : ℕ) (v : Value) (e : E) (whole : Result (List A) E) → i < length vs → v ≡ get_or vs i v
    → each_from reading xs (items_view (drop i vs)) ≡ whole → FailsUnless is_memory e (reading (view v)) → FailsUnless is_memory e whole
unfolding each_from
each_from-stops is_memory reading xs vs i v e whole lt is so_far h = λ m.
    let refused : reading (view v) ≡ Err e = h m in
    let one : each_from reading xs (items_view (drop i vs)) ≡ Err e = rw (drop_more vs i v lt, ← is, refused) refl in
    sym so_far ∙ one

-- all items are read
pub each_from-ends : {A E : Type 0} (reading : Data → Result A E) (xs : List A) (vs : List Value) (i : ℕ) (whole : Result (List A) E) → length vs ≤ i → each_from reading xs (items_view (drop i vs)) ≡ whole → whole ≡ Ok xs
unfolding each_from
each_from-ends reading xs vs i whole le so_far =
    let none : drop i vs ≡ [] = drop_all i vs le in
    let one : each_from reading xs (items_view (drop i vs)) ≡ Ok xs = rw none refl in
    sym so_far ∙ one
