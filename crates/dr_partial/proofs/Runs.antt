-- Rows of an open index that lie beside each other.
use Rattle.std.proofs.Common.{◌≡◌, ◌∙◌, sym, refl, ap, subst, ℕ, zero, suc, ◌+◌, ◌-◌, ◌<◌, ◌≤◌, ℤ, true, List, [], ◌∷◌, ◌++◌, map, length, take, drop, get_or, slice_get, slice_range, Some, None, is_some, unwrap_or, true≢false, ◌&&◌, ◌==◌, Result, Ok, Err, OnOk, arith}
use Rattle.std.proofs.Math.Dec.{eqb-suc-zero}
use Rattle.std.proofs.Math.Seq.{take-add}
use Rattle.std.proofs.lemmas.List.{drop_more, take_more, length-drop, length-take, get_or-drop}
use Rattle.std.proofs.lemmas.Option.{get_or_from_slice_get}
use Rattle.std.specs.List.{AllByRecursion, fold}
use Rattle.dr_base.specs.declared.key.Key.{Key}
use Rattle.dr_base.specs.declared.row.Row.{Row}
use Rattle.dr_agg.specs.declared.kind.Kind.{Kind}
use Rattle.dr_agg.specs.Combination.{combine_of}
use Rattle.dr_ask.specs.Asked.{Asked, dimensions_by}
use Rattle.dr_answers.specs.Fold.{folds}
use Rattle.dr_answers.specs.Groups.{grouped_values}
use Rattle.dr_answers.specs.Selection.{passes}
use Rattle.dr_partial.specs.Grouped.{Adds, AddsAll}
use Rattle.dr_partial.specs.Partial.{kinds_in}
use Rattle.dr_partial.specs.Runs.{LiesIn}
use Rattle.dr_partial.proofs.ByColumns.{IsOf, together-added}

-- ---- rows from a place on, up to another

pub none : {X : Type 0} (xs : List X) (from : ℕ) → slice_range xs from from ≡ []
none xs from = let z : from - from ≡ 0 = omega arith in ap (λ n. take n (drop from xs)) z

pub one-first : {X : Type 0} (xs : List X) (from to : ℕ) (x : X) → from < to → to ≤ length xs → slice_get xs from ≡ Some x → slice_range xs from to ≡ x ∷ slice_range xs (from + 1) to
one-first xs from to x lt le at =
    let n : to - from ≡ suc (to - (from + 1)) = omega (arith, lt) in
    ap (λ l. take (to - from) l) (drop_more xs from x (omega (arith, lt, le)) ∙ ap (λ y. y ∷ drop (from + 1) xs) (get_or_from_slice_get xs from x x at))
    ∙ ap (λ k. take k (x ∷ drop (from + 1) xs)) n

pub one-last : {X : Type 0} (xs : List X) (from to : ℕ) (x : X) → from ≤ to → to < length xs → slice_get xs to ≡ Some x → slice_range xs from (to + 1) ≡ slice_range xs from to ++ x ∷ []
one-last xs from to x le lt at =
    let n : to + 1 - from ≡ (to - from) + 1 = omega (arith, le) in
    let same : from + (to - from) ≡ to = omega (arith, le) in
    ap (λ k. take k (drop from xs)) n
    ∙ take_more (drop from xs) (to - from) x (omega (arith, le, lt, length-drop from xs))
    ∙ ap (λ y. slice_range xs from to ++ y ∷ []) (get_or-drop from xs (to - from) x ∙ ap (λ k. get_or xs k x) same ∙ get_or_from_slice_get xs to x x at)

pub joined : {X : Type 0} (xs : List X) (from to : ℕ) → from ≤ to → take from xs ++ slice_range xs from to ≡ take to xs
joined xs from to le = let same : from + (to - from) ≡ to = omega (arith, le) in sym (take-add from (to - from) xs) ∙ ap (λ k. take k xs) same

pub pushed : {X : Type 0} (P : X → Type 0) (xs : List X) (x : X) → AllByRecursion P xs → P x → AllByRecursion P (xs ++ x ∷ [])
pushed P [] x all one = (one, tt)
pushed P (y ∷ xs) x all one = (all.0, pushed P xs x all.1 one)

pub turned : {X : Type 0} (P Q : X → Type 0) (xs : List X) → ((x : X) → P x → Q x) → AllByRecursion P xs → AllByRecursion Q xs
turned P Q [] f all = tt
turned P Q (x ∷ xs) f all = (f x all.0, turned P Q xs f all.1)

pub member : {X : Type 0} (P : X → Type 0) (xs : List X) (i : ℕ) (x : X) → slice_get xs i ≡ Some x → AllByRecursion P xs → P x
member P [] i x at all = absurd (true≢false (sym (ap is_some at)))
member P (y ∷ xs) zero x at all = subst P (ap (λ o. unwrap_or o y) at) all.0
member P (y ∷ xs) (suc i) x at all = member P xs i x at all.1

-- ---- folded one by one

pub fold-next : (k : Kind) (read : Row → ℤ) (rows : List Row) (folded v all : ℤ) (i to : ℕ) (r : Row) → i < to → to ≤ length rows → slice_get rows i ≡ Some r
    → v ≡ combine_of k folded (read r) → fold (combine_of k) folded (map read (slice_range rows i to)) ≡ all → fold (combine_of k) v (map read (slice_range rows (i + 1) to)) ≡ all
fold-next k read rows folded v all i to r lt le at is h =
    ap (λ x. fold (combine_of k) x (map read (slice_range rows (i + 1) to))) is ∙ ap (λ l. fold (combine_of k) folded (map read l)) (sym (one-first rows i to r lt le at)) ∙ h

pub fold-done : (k : Kind) (read : Row → ℤ) (rows : List Row) (folded all : ℤ) (i to : ℕ) → to ≤ i → fold (combine_of k) folded (map read (slice_range rows i to)) ≡ all → folded ≡ all
fold-done k read rows folded all i to le h =
    let z : to - i ≡ 0 = omega (arith, le) in
    sym (ap (λ n. fold (combine_of k) folded (map read (take n (drop i rows)))) z) ∙ h

-- ---- rows of one group

pub run-added : {E : Type 0} (q : Asked) (rows : List Row) (from to : ℕ) (before after : List Row) (start : ℤ) (values : List ℤ) (r : Row) (result : Result (Unit {0}) E)
    → from < to → to ≤ length rows → slice_get rows from ≡ Some r → q.filter ≡ None → dimensions_by q.shape ≡ []
    → AllByRecursion (λ x. LiesIn q start x.key.time) (slice_range rows from to) → values ≡ folds q.aggregations (slice_range rows from to)
    → OnOk result (Adds (kinds_in q.aggregations) before (record { key = record { time = start; dims = [] }; metrics = values }) after)
    → OnOk result (AddsAll q before (slice_range rows from to) after)
run-added q rows from to before after start values r (Err e) lt le at every plain same is adds = tt
run-added q rows from to before after start values r (Ok u) lt le at every plain same is adds =
    let first = one-first rows from to r lt le at in
    let rest = slice_range rows (from + 1) to in
    let k : Key = record { time = start; dims = [] } in
    let own : (x : Row) → LiesIn q start x.key.time → IsOf q k x = λ x lies. (
      (λ i. lies.0 i && passes (every i) x.key),
      (λ i. record { time = lies.1 i; dims = grouped_values (plain i) x.key.dims }),
    ) in
    subst (λ l. AddsAll q before l after) (sym first)
    (together-added q before after k r rest (subst (AllByRecursion (IsOf q k)) first (turned (λ x. LiesIn q start x.key.time) (IsOf q k) (slice_range rows from to) own same))
    (subst (λ m. Adds (kinds_in q.aggregations) before (record { key = k; metrics = m }) after) (is ∙ ap (folds q.aggregations) first) adds))

-- a row of a run
taken : {X : Type 0} (xs : List X) (n i : ℕ) → i < n → slice_get (take n xs) i ≡ slice_get xs i
taken [] (suc n) i lt = refl
taken xs zero i lt = absurd (omega (arith, lt))
taken (x ∷ xs) (suc n) zero lt = refl
taken (x ∷ xs) (suc n) (suc i) lt = taken xs n i (omega (arith, lt))

dropped : {X : Type 0} (xs : List X) (n i : ℕ) → slice_get (drop n xs) i ≡ slice_get xs (n + i)
dropped xs zero i = let same : i ≡ 0 + i = omega arith in ap (slice_get xs) same
dropped [] (suc n) i = refl
dropped (x ∷ xs) (suc n) i = let same : suc (n + i) ≡ suc n + i = omega arith in dropped xs n i ∙ ap (slice_get (x ∷ xs)) same

pub in-run : {X : Type 0} (P : X → Type 0) (xs : List X) (from to i : ℕ) (x : X) → from ≤ i → i < to → slice_get xs i ≡ Some x → AllByRecursion P (slice_range xs from to) → P x
in-run P xs from to i x le lt at all =
    let same : from + (i - from) ≡ i = omega (arith, le) in
    member P (slice_range xs from to) (i - from) x (taken (drop from xs) (to - from) (i - from) (omega (arith, le, lt)) ∙ dropped xs from (i - from) ∙ ap (slice_get xs) same ∙ at) all

pub in_range : {X : Type 0} (xs : List X) (from to i : ℕ) (x : X) → from ≤ i → i < to → to ≤ length xs → slice_get xs i ≡ Some x → (i - from < length (slice_range xs from to)) × (x ≡ get_or (slice_range xs from to) (i - from) x)
in_range xs from to i x le lt within at =
    let same : from + (i - from) ≡ i = omega (arith, le) in (
      omega (arith, le, lt, within, length-take (to - from) (drop from xs), length-drop from xs),
      sym (get_or_from_slice_get (slice_range xs from to) (i - from) x x (taken (drop from xs) (to - from) (i - from) (omega (arith, le, lt)) ∙ dropped xs from (i - from) ∙ ap (slice_get xs) same ∙ at)),
    )

pub absent : {X : Type 0} (xs : List X) (i : ℕ) → length xs ≤ i → slice_get xs i ≡ None
absent [] i le = refl
absent (x ∷ xs) zero le = absurd (omega (arith, le))
absent (x ∷ xs) (suc i) le = absent xs i (omega (arith, le))

pub no-bytes : (xs : List ℕ) → (length xs == 0) ≡ true → xs ≡ []
no-bytes [] h = refl
no-bytes (x ∷ xs) h = absurd (true≢false (sym h ∙ eqb-suc-zero (length xs)))
