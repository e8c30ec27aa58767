-- Folds over rearranged lists.
use Rattle.std.proofs.Common.{◌≡◌, ◌∙◌, sym, refl, ap, ℕ, zero, suc, ◌<◌, ℤ, Bool, true, false, List, [], ◌∷◌, ◌++◌, length, get_or, cond, map, arith}
use Rattle.std.proofs.Math.ListN.{set}
use Rattle.std.proofs.lemmas.List.{append-nil}
use Rattle.std.proofs.lemmas.List.Sorted.{IsPermutation-keeps}
use Rattle.std.specs.List.{filter, fold, swap}
use Rattle.std.specs.List.Sorted.{IsPermutation}
use Rattle.std.specs.declared.cmp.Ordering.TheVariants.{Less, Equal, Greater}
use Rattle.std.specs.Ordering.{is_eq}
use Rattle.dr_base.specs.declared.key.Key.{Key}
use Rattle.dr_base.specs.declared.row.Row.{Row}
use Rattle.dr_base.specs.Order.{key_cmp}
use Rattle.dr_agg.specs.declared.kind.Kind.{Kind}
use Rattle.dr_agg.specs.Combination.{combine_of, unit_of, combine_columns}
use Rattle.dr_agg.specs.Rollup.{rows_at, combined, together, IsRising, add_row, rollup_onto, rollup, fold_rows}
use Rattle.dr_agg.proofs.KeyOrder.{same_key}
use Rattle.dr_agg.proofs.RollupLaws.{rows_at-add_row, combined-append, together_left, same_rows, IsRising-add_row, IsInOrder-from_rising}
use Rattle.dr_agg.proofs.ColumnLaws.{combine_of-exchange, combine_columns-comm, combine_columns-exchange}

-- a step may be exchanged with the next, at each value that the steps reach
module _ {A B : Type 0} (f : B → A → B) (Reached : B → Type 0) (more : (b : B) (x : A) → Reached b → Reached (f b x)) (exchange : (b : B) (x y : A) → Reached b → f (f b x) y ≡ f (f b y) x) where
  fold_set : (b : B) (x : A) (xs : List A) (j : ℕ) (d : A) → j < length xs → Reached b → fold f (f b (get_or xs j d)) (set xs j x) ≡ fold f (f b x) xs
  fold_set b x [] j d lt at = absurd (omega arith)
  fold_set b x (z ∷ zs) zero d lt at = ap (λ c. fold f c zs) (exchange b z x at)
  fold_set b x (z ∷ zs) (suc j) d lt at =
      let lt' : j < length zs = omega arith in
      ap (λ c. fold f c (set zs j x)) (exchange b (get_or zs j d) z at) ∙ fold_set (f b z) x zs j d lt' (more b z at) ∙ ap (λ c. fold f c zs) (exchange b z x at)

  fold_swapped : (b : B) (xs : List A) (i j : ℕ) (d : A) → i < length xs → j < length xs → Reached b → fold f b (set (set xs i (get_or xs j d)) j (get_or xs i d)) ≡ fold f b xs
  fold_swapped b [] i j d hi hj at = absurd (omega arith)
  fold_swapped b (z ∷ zs) zero zero d hi hj at = refl
  fold_swapped b (z ∷ zs) zero (suc j) d hi hj at = let lt : j < length zs = omega arith in fold_set b z zs j d lt at
  fold_swapped b (z ∷ zs) (suc i) zero d hi hj at = let lt : i < length zs = omega arith in fold_set b z zs i d lt at
  fold_swapped b (z ∷ zs) (suc i) (suc j) d hi hj at =
      let li : i < length zs = omega arith in
      let lj : j < length zs = omega arith in
      fold_swapped (f b z) zs i j d li lj (more b z at)

  fold-swap : (b : B) (xs : List A) (i j : ℕ) → i < length xs → j < length xs → Reached b → fold f b (swap xs i j) ≡ fold f b xs
  fold-swap b [] i j hi hj at = refl
  fold-swap b (d ∷ ys) i j hi hj at = fold_swapped b (d ∷ ys) i j d hi hj at

  pub fold-IsPermutation : (b : B) (xs ys : List A) → Reached b → IsPermutation xs ys → fold f b ys ≡ fold f b xs
  fold-IsPermutation b xs ys at moved = IsPermutation-keeps xs (λ l. fold f b l ≡ fold f b xs) refl (λ l i j hi hj h. fold-swap b l i j hi hj at ∙ h) ys moved

module _ (k : Kind) (value : Row → ℤ) (test : Row → Bool) where
  abbrev taken : ℤ → Row → ℤ
  taken a r = cond (test r) (combine_of k a (value r)) a

  fold_taken : (a : ℤ) (rows : List Row) → fold taken a rows ≡ fold (combine_of k) a (map value (filter test rows))
  fold_taken a [] = refl
  fold_taken a (r ∷ rows) =
      elim (test r) as (λ b. fold taken (cond b (combine_of k a (value r)) a) rows ≡ fold (combine_of k) a (map value (cond b (r ∷ filter test rows) (filter test rows))))
      [ true ↦ fold_taken (combine_of k a (value r)) rows | false ↦ fold_taken a rows ]

  taken_exchange : (a : ℤ) (x y : Row) → taken (taken a x) y ≡ taken (taken a y) x
  taken_exchange a x y =
      elim (test x) as (λ p. cond (test y) (combine_of k (cond p (combine_of k a (value x)) a) (value y)) (cond p (combine_of k a (value x)) a) ≡ cond p (combine_of k (cond (test y) (combine_of k a (value y)) a) (value x)) (cond (test y) (combine_of k a (value y)) a)) [
        | true ↦ elim (test y) as (λ q. cond q (combine_of k (combine_of k a (value x)) (value y)) (combine_of k a (value x)) ≡ combine_of k (cond q (combine_of k a (value y)) a) (value x)) [ true ↦ combine_of-exchange k a (value x) (value y) | false ↦ refl ]
        | false ↦ refl
      ]

  pub fold_rows-IsPermutation : (es others : List Row) → IsPermutation es others → fold_rows k value test es ≡ fold_rows k value test others
  fold_rows-IsPermutation es others moved =
      sym (fold_taken (unit_of k) es) ∙ sym (fold-IsPermutation taken (λ a. Unit {0}) (λ a x at. tt) (λ a x y at. taken_exchange a x y) (unit_of k) es others tt moved) ∙ fold_taken (unit_of k) others

-- two rows of one key are put together in either order
together_exchange : (kinds : List Kind) (x y : Row) → x.key ≡ y.key → (rows : List Row) → together true kinds ((rows ++ x ∷ []) ++ y ∷ []) ≡ together true kinds ((rows ++ y ∷ []) ++ x ∷ [])
together_exchange kinds x y e [] = λ i. record { key = e i; metrics = combine_columns-comm kinds x.metrics y.metrics i } ∷ []
together_exchange kinds x y e (r ∷ rows) =
    let two : (a b : Row) → combined kinds r.metrics ((rows ++ a ∷ []) ++ b ∷ []) ≡ combine_columns kinds (combine_columns kinds (combined kinds r.metrics rows) a.metrics) b.metrics =
    λ a b. combined-append kinds r.metrics (rows ++ a ∷ []) (b ∷ []) ∙ ap (λ m. combine_columns kinds m b.metrics) (combined-append kinds r.metrics rows (a ∷ [])) in
    ap (λ m. record { key = r.key; metrics = m } ∷ []) (two x y ∙ combine_columns-exchange kinds (combined kinds r.metrics rows) x.metrics y.metrics ∙ sym (two y x))

exchange_at : (kinds : List Kind) (q : Key) (rows : List Row) (x y : Row)
    → together true kinds ((rows ++ rows_at q (x ∷ [])) ++ rows_at q (y ∷ [])) ≡ together true kinds ((rows ++ rows_at q (y ∷ [])) ++ rows_at q (x ∷ []))
exchange_at kinds q rows x y =
    elim (key_cmp q x.key) as (λ o. key_cmp q x.key ≡ o → together true kinds ((rows ++ cond (is_eq o) (x ∷ []) []) ++ rows_at q (y ∷ [])) ≡ together true kinds ((rows ++ rows_at q (y ∷ [])) ++ cond (is_eq o) (x ∷ []) [])) [
      | Less ↦ λ t. rw (append-nil rows, append-nil (rows ++ rows_at q (y ∷ []))) refl
      | Equal ↦ λ t. elim (key_cmp q y.key) as (λ o. key_cmp q y.key ≡ o → together true kinds ((rows ++ x ∷ []) ++ cond (is_eq o) (y ∷ []) []) ≡ together true kinds ((rows ++ cond (is_eq o) (y ∷ []) []) ++ x ∷ [])) [
        | Less ↦ λ u. rw (append-nil rows, append-nil (rows ++ x ∷ [])) refl
        | Equal ↦ λ u. together_exchange kinds x y (sym (same_key q x.key t) ∙ same_key q y.key u) rows
        | Greater ↦ λ u. rw (append-nil rows, append-nil (rows ++ x ∷ [])) refl
      ] refl
      | Greater ↦ λ t. rw (append-nil rows, append-nil (rows ++ rows_at q (y ∷ []))) refl
    ]
    refl

-- and rows are added in either order
add_row_exchange : (kinds : List Kind) (rows : List Row) (x y : Row) → IsRising rows → add_row true kinds (add_row true kinds rows x) y ≡ add_row true kinds (add_row true kinds rows y) x
add_row_exchange kinds rows x y up =
    let rising : (a b : Row) → IsRising (add_row true kinds (add_row true kinds rows a) b) = λ a b. IsRising-add_row kinds (add_row true kinds rows a) b (IsRising-add_row kinds rows a up) in
    let two : (a b : Row) (q : Key) → rows_at q (add_row true kinds (add_row true kinds rows a) b) ≡ together true kinds ((rows_at q rows ++ rows_at q (a ∷ [])) ++ rows_at q (b ∷ [])) =
    λ a b q. rows_at-add_row true kinds q (add_row true kinds rows a) b (IsRising-add_row kinds rows a up)
    ∙ ap (λ l. together true kinds (l ++ rows_at q (b ∷ []))) (rows_at-add_row true kinds q rows a up)
    ∙ together_left true kinds (rows_at q rows ++ rows_at q (a ∷ [])) (rows_at q (b ∷ [])) in
    same_rows _ _ (IsInOrder-from_rising _ (rising x y)) (IsInOrder-from_rising _ (rising y x)) (λ q. two x y q ∙ exchange_at kinds q (rows_at q rows) x y ∙ sym (two y x q))

add_rows : (kinds : List Kind) (rows es : List Row) → rollup_onto true kinds rows es ≡ fold (add_row true kinds) rows es
unfolding rollup_onto
add_rows kinds rows [] = refl
add_rows kinds rows (e ∷ es) = add_rows kinds (add_row true kinds rows e) es

-- the rollup of rearranged entries, where rows are combined
pub rollup-IsPermutation : (kinds : List Kind) (es others : List Row) → IsPermutation es others → rollup true kinds es ≡ rollup true kinds others
rollup-IsPermutation kinds es others moved =
    add_rows kinds [] es
    ∙ sym (fold-IsPermutation (add_row true kinds) IsRising (λ rows r up. IsRising-add_row kinds rows r up) (λ rows x y up. add_row_exchange kinds rows x y up) [] es others tt moved)
    ∙ sym (add_rows kinds [] others)
