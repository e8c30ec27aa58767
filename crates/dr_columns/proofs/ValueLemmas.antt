-- Values of rows, as columns have them.
use Rattle.std.proofs.Common.{◌≡◌, ◌∙◌, sym, refl, ap, subst, ℕ, ◌<◌, ◌≤◌, ℤ, pos, Bool, true, false, List, [], map, length, get_or, slice_get, unwrap_or, Option, None, Some, is_some, if◌then◌else◌, arith, true≢false}
use Rattle.std.specs.Prelude.{nat_lt}
use Rattle.std.proofs.lemmas.Bool.{ltb-true}
use Rattle.std.proofs.lemmas.List.{length-map, get_or-map}
use Rattle.std.proofs.lemmas.Option.{slice_get-get_or, slice_get_past, slice_get_within, get_or_from_slice_get, unwrap_or-slice_get}
use Rattle.std.proofs.Math.ListN as same
use Rattle.dr_agg.specs.Combination.{column}
use Rattle.dr_predicate.specs.declared.value_test.ValueTest.{ValueTest}
use Rattle.dr_predicate.specs.Match as match
use Rattle.dr_image.specs.Table.{Table, no_column, row_at, value_at}
use Rattle.dr_image.specs.Checked.{column_at}
use Rattle.dr_columns.specs.Rows.{key_at, known_place}

pub key-time : (t : Table) (i : ℕ) → (key_at t i).time ≡ get_or t.times i (pos 0)
unfolding row_at
key-time t i = refl

key-dims : (t : Table) (i : ℕ) → (key_at t i).dims ≡ map (λ c. value_at c i) t.dims
unfolding row_at
key-dims t i = refl

pub row-metrics : (t : Table) (i : ℕ) → (row_at t i).metrics ≡ map (λ m. get_or m i (pos 0)) t.metrics
unfolding row_at
row-metrics t i = refl

-- ---- the value of a dimension

pub value-there : (t : Table) (d i : ℕ) → d < length t.dims → match.value_at (Some d) (key_at t i).dims ≡ value_at (column_at t d) i
value-there t d i lt =
    ap (λ l. unwrap_or (slice_get l d) []) (key-dims t i)
    ∙ ap (λ o. unwrap_or o []) (slice_get-get_or (map (λ c. value_at c i) t.dims) d [] (omega (arith, lt, length-map t.dims (λ c. value_at c i))))
    ∙ get_or-map (λ c. value_at c i) t.dims d no_column [] lt

value-absent : (t : Table) (d i : ℕ) → length t.dims ≤ d → match.value_at (Some d) (key_at t i).dims ≡ []
value-absent t d i le =
    ap (λ l. unwrap_or (slice_get l d) []) (key-dims t i)
    ∙ ap (λ o. unwrap_or o []) (slice_get_past (map (λ c. value_at c i) t.dims) d (omega (arith, le, length-map t.dims (λ c. value_at c i))))

pub known : (place : Option ℕ) (n d : ℕ) → Some d ≡ known_place place n → (place ≡ Some d) × (d < n)
known None n d h = absurd (true≢false (ap is_some h))
known (Some p) n d h =
    elim (nat_lt p n) as (λ b. nat_lt p n ≡ b → Some d ≡ (if b then Some p else None) → (Some p ≡ Some d) × (d < n)) [
      | true ↦ λ lt g. let same : d ≡ p = cc in (ap Some (sym same), subst (λ x. x < n) (sym same) (ltb-true p n lt))
      | false ↦ λ lt g. absurd (true≢false (ap is_some g))
    ] refl h

pub unknown : (t : Table) (place : Option ℕ) (i : ℕ) → None ≡ known_place place (length t.dims) → match.value_at place (key_at t i).dims ≡ []
unknown t None i h = refl
unknown t (Some p) i h =
    elim (nat_lt p (length t.dims)) as (λ b. nat_lt p (length t.dims) ≡ b → None ≡ (if b then Some p else None) → match.value_at (Some p) (key_at t i).dims ≡ []) [
      | true ↦ λ lt g. absurd (true≢false (sym (ap is_some g)))
      | false ↦ λ ge g. value-absent t p i (at_least p (length t.dims) ge)
    ] refl h
  where
    at_least : (a b : ℕ) → nat_lt a b ≡ false → b ≤ a
    at_least a b ge = grind arith

-- ---- a test that was asked of each value of a dictionary

pub truth-there : (t : Table) (d i : ℕ) (test : ValueTest) (numbers : List ℕ) (truths : List Bool) (empty : Bool)
    → d < length t.dims → numbers ≡ (column_at t d).numbers → truths ≡ map (match.passes test) (column_at t d).dictionary → empty ≡ match.passes test []
    → get_or truths (get_or numbers i 0) empty ≡ match.passes test (match.value_at (Some d) (key_at t i).dims)
truth-there t d i test numbers truths empty lt is told none =
    (λ j. get_or (told j) (get_or (is j) i 0) (none j))
    ∙ same.get_or-map (match.passes test) (column_at t d).dictionary (get_or (column_at t d).numbers i 0) []
    ∙ ap (match.passes test) (sym (value-there t d i lt))

pub value-known : (t : Table) (place : Option ℕ) (d i : ℕ) → Some d ≡ known_place place (length t.dims) → value_at (column_at t d) i ≡ match.value_at place (key_at t i).dims
value-known t place d i found =
    let k = known place (length t.dims) d found in
    sym (ap (λ p. match.value_at p (key_at t i).dims) k.0 ∙ value-there t d i k.1)

-- rows of one number have one value
pub same-values : (t : Table) (place : Option ℕ) (d i j : ℕ) (numbers : List ℕ) → Some d ≡ known_place place (length t.dims) → numbers ≡ (column_at t d).numbers → get_or numbers i 0 ≡ get_or numbers j 0
    → match.value_at place (key_at t i).dims ≡ match.value_at place (key_at t j).dims
same-values t place d i j numbers found is same =
    let at : (m : ℕ) → match.value_at place (key_at t m).dims ≡ get_or (column_at t d).dictionary (get_or numbers m 0) [] =
    λ m. sym (value-known t place d m found) ∙ ap (λ ns. get_or (column_at t d).dictionary (get_or ns m 0) []) (sym is) in
    at i ∙ ap (λ n. get_or (column_at t d).dictionary n []) same ∙ sym (at j)

-- ---- the value of a metric

pub metric-there : (t : Table) (place i : ℕ) (m : List ℤ) → slice_get t.metrics place ≡ Some m → get_or m i (pos 0) ≡ column place (row_at t i).metrics
metric-there t place i m at =
    sym (ap (column place) (row-metrics t i) ∙ get_or-map (λ l. get_or l i (pos 0)) t.metrics place [] (pos 0) (slice_get_within t.metrics place m at)
    ∙ ap (λ l. get_or l i (pos 0)) (get_or_from_slice_get t.metrics place m [] at))

pub metric-absent : (t : Table) (place i : ℕ) → length t.metrics ≤ place → pos 0 ≡ column place (row_at t i).metrics
metric-absent t place i le =
    sym (ap (column place) (row-metrics t i)
    ∙ sym (unwrap_or-slice_get (map (λ l. get_or l i (pos 0)) t.metrics) place (pos 0))
    ∙ ap (λ o. unwrap_or o (pos 0)) (slice_get_past (map (λ l. get_or l i (pos 0)) t.metrics) place (omega (arith, le, length-map t.metrics (λ l. get_or l i (pos 0))))))

pub truth-known : (t : Table) (place : Option ℕ) (d i : ℕ) (test : ValueTest) (numbers : List ℕ) (truths : List Bool) (empty : Bool)
    → Some d ≡ known_place place (length t.dims) → numbers ≡ (column_at t d).numbers → truths ≡ map (match.passes test) (column_at t d).dictionary → empty ≡ match.passes test []
    → get_or truths (get_or numbers i 0) empty ≡ match.passes test (match.value_at place (key_at t i).dims)
truth-known t place d i test numbers truths empty found is told none =
    let k = known place (length t.dims) d found in
    truth-there t d i test numbers truths empty k.1 is told none ∙ ap (λ p. match.passes test (match.value_at p (key_at t i).dims)) (sym k.0)
