-- Rollup, key by key.
use Rattle.std.proofs.Common.{◌≡◌, ◌∙◌, sym, refl, ap, ℤ, Bool, true, false, List, [], ◌∷◌, ◌++◌, cond, append_assoc, map, ◌||◌}
use Rattle.std.proofs.lemmas.List.{append-nil}
use Rattle.std.proofs.lemmas.List.Elements.{filter-append}
use Rattle.std.specs.Prelude.{if◌then◌else◌}
use Rattle.std.proofs.lemmas.Cmp.{alike_right}
use Rattle.std.specs.List.{list_any, AllByRecursion}
use Rattle.std.specs.declared.cmp.Ordering.TheVariants.{Less, Equal, Greater}
use Rattle.std.specs.Ordering.{is_lt, is_eq, eq_by_cmp, match_ordering}
use Rattle.dr_base.specs.declared.key.Key.{Key}
use Rattle.dr_base.specs.declared.row.Row.{Row}
use Rattle.dr_base.specs.Order.{key_cmp}
use Rattle.dr_agg.specs.declared.kind.Kind.{Kind}
use Rattle.dr_agg.specs.Combination.{combine_columns, FitsColumns}
use Rattle.dr_agg.specs.Rollup.{rows_at, combined, together, IsInOrder, IsRising, IsRollup, joined, add_row, rollup_onto, rollup, all_rows, join, AllFit}
use Rattle.dr_agg.proofs.KeyOrder.{key_cmp_total, same_key, itself, less_back, greater_back, below_differs, above_differs, not_below}
use Rattle.dr_agg.proofs.ColumnLaws.{combine_columns-assoc, length-combine_columns}
use Rattle.dr_base.proofs.Truths.{or_false, or_twice, or_moves, or_moves_out}

pub AllByRecursion-implied : (P Q : Row → Type 0) → ((x : Row) → P x → Q x) → (xs : List Row) → AllByRecursion P xs → AllByRecursion Q xs
AllByRecursion-implied P Q f [] all = tt
AllByRecursion-implied P Q f (x ∷ xs) all = (f x all.0, AllByRecursion-implied P Q f xs all.1)

-- ---- the rows of a key

pub rows_at-append : (q : Key) (a b : List Row) → rows_at q (a ++ b) ≡ rows_at q a ++ rows_at q b
rows_at-append q a b = filter-append (λ r. eq_by_cmp key_cmp q r.key) a b

at_equal : (q : Key) (x : Row) (xs : List Row) → key_cmp q x.key ≡ Equal → rows_at q (x ∷ xs) ≡ x ∷ rows_at q xs
at_equal q x xs t = ap (λ o. cond (is_eq o) (x ∷ rows_at q xs) (rows_at q xs)) t

none_at : (q : Key) (xs : List Row) → AllByRecursion (λ x. eq_by_cmp key_cmp q x.key ≡ false) xs → rows_at q xs ≡ []
none_at q [] all = refl
none_at q (x ∷ xs) all = ap (λ b. cond b (x ∷ rows_at q xs) (rows_at q xs)) all.0 ∙ none_at q xs all.1

-- a key below the first has no row
none_below : (q : Key) (x : Row) (xs : List Row) → IsInOrder (x ∷ xs) → key_cmp q x.key ≡ Less → rows_at q (x ∷ xs) ≡ []
none_below q x xs ord t =
    ap (λ o. cond (is_eq o) (x ∷ rows_at q xs) (rows_at q xs)) t
    ∙ none_at q xs (AllByRecursion-implied (λ y. is_lt (key_cmp y.key x.key) ≡ false) (λ y. eq_by_cmp key_cmp q y.key ≡ false) (λ y h. below_differs q x.key y.key t h) xs ord.0)

-- the key of the first of rising rows has no other row
none_above : (q : Key) (x : Row) (xs : List Row) → IsRising (x ∷ xs) → key_cmp q x.key ≡ Equal → rows_at q xs ≡ []
none_above q x xs up t =
    none_at q xs (AllByRecursion-implied (λ y. key_cmp x.key y.key ≡ Less) (λ y. eq_by_cmp key_cmp q y.key ≡ false) (λ y h. above_differs q x.key y.key t h) xs up.0)

-- ---- a list in order is known by its rows at each key

same_rest : (b : Bool) (x y : Row) (xs ys : List Row) → cond b (x ∷ xs) xs ≡ cond b (y ∷ ys) ys → xs ≡ ys
same_rest true x y xs ys e = cc
same_rest false x y xs ys e = e

pub same_rows : (a b : List Row) → IsInOrder a → IsInOrder b → ((q : Key) → rows_at q a ≡ rows_at q b) → a ≡ b
same_rows [] [] oa ob e = refl
same_rows [] (y ∷ ys) oa ob e = let h : [] ≡ y ∷ rows_at y.key ys = e y.key ∙ at_equal y.key y ys (itself y.key) in cc
same_rows (x ∷ xs) [] oa ob e = let h : x ∷ rows_at x.key xs ≡ [] = sym (at_equal x.key x xs (itself x.key)) ∙ e x.key in cc
same_rows (x ∷ xs) (y ∷ ys) oa ob e =
    elim (key_cmp x.key y.key) as (λ o. key_cmp x.key y.key ≡ o → (x ∷ xs) ≡ (y ∷ ys)) [
      | Less ↦ λ t. let h : x ∷ rows_at x.key xs ≡ [] = sym (at_equal x.key x xs (itself x.key)) ∙ e x.key ∙ none_below x.key y ys ob t in cc
      | Equal ↦ λ t.
          let h : x ∷ rows_at x.key xs ≡ y ∷ rows_at x.key ys = sym (at_equal x.key x xs (itself x.key)) ∙ e x.key ∙ at_equal x.key y ys t in
          let same : x ≡ y = cc in
          let rest : (q : Key) → rows_at q xs ≡ rows_at q ys = λ q.
          same_rest (eq_by_cmp key_cmp q x.key) x y (rows_at q xs) (rows_at q ys) (e q ∙ ap (λ (z : Row). cond (eq_by_cmp key_cmp q z.key) (y ∷ rows_at q ys) (rows_at q ys)) (sym same)) in
          λ i. same i ∷ same_rows xs ys oa.1 ob.1 rest i
      | Greater ↦ λ t. let h : y ∷ rows_at y.key ys ≡ [] = sym (at_equal y.key y ys (itself y.key)) ∙ sym (e y.key) ∙ none_below y.key x xs oa (greater_back x.key y.key t) in cc
    ]
    refl

pub same_rollup : (combines : Bool) (kinds : List Kind) (es rows others : List Row) → IsRollup combines kinds es rows → IsRollup combines kinds es others → rows ≡ others
same_rollup combines kinds es rows others a b = same_rows rows others a.ordered b.ordered (λ q. a.each q ∙ sym (b.each q))

-- ---- the order after a row was added

pub AllByRecursion-add_row : (combines : Bool) (kinds : List Kind) (P : Key → Type 0) (rows : List Row) (r : Row) → AllByRecursion (λ x. P x.key) rows → P r.key → AllByRecursion (λ x. P x.key) (add_row combines kinds rows r)
unfolding add_row
AllByRecursion-add_row combines kinds P [] r all one = (one, tt)
AllByRecursion-add_row combines kinds P (x ∷ xs) r all one =
    let more = AllByRecursion-add_row combines kinds P xs r all.1 one in
    elim (key_cmp r.key x.key) as (λ o. AllByRecursion (λ x. P x.key) (match_ordering o (r ∷ x ∷ xs) (if combines then joined kinds x r ∷ xs else (x ∷ add_row combines kinds xs r)) (x ∷ add_row combines kinds xs r))) [
      | Less ↦ (one, all)
      | Equal ↦ elim combines as (λ b. AllByRecursion (λ x. P x.key) (if b then joined kinds x r ∷ xs else (x ∷ add_row combines kinds xs r))) [ true ↦ (all.0, all.1) | false ↦ (all.0, more) ]
      | Greater ↦ (all.0, more)
    ]

IsInOrder-add_row : (combines : Bool) (kinds : List Kind) (rows : List Row) (r : Row) → IsInOrder rows → IsInOrder (add_row combines kinds rows r)
unfolding add_row
IsInOrder-add_row combines kinds [] r ord = (tt, tt)
IsInOrder-add_row combines kinds (x ∷ xs) r ord =
    let behind : is_lt (key_cmp r.key x.key) ≡ false → IsInOrder (x ∷ add_row combines kinds xs r) =
    λ h. (AllByRecursion-add_row combines kinds (λ k. is_lt (key_cmp k x.key) ≡ false) xs r ord.0 h, IsInOrder-add_row combines kinds xs r ord.1) in
    elim (key_cmp r.key x.key) as (λ o. key_cmp r.key x.key ≡ o → IsInOrder (match_ordering o (r ∷ x ∷ xs) (if combines then joined kinds x r ∷ xs else (x ∷ add_row combines kinds xs r)) (x ∷ add_row combines kinds xs r))) [
      | Less ↦ λ t.
          ((ap is_lt (less_back r.key x.key t), AllByRecursion-implied (λ y. is_lt (key_cmp y.key x.key) ≡ false) (λ y. is_lt (key_cmp y.key r.key) ≡ false) (λ y h. not_below r.key x.key y.key t h) xs ord.0), ord)
      | Equal ↦ λ t. elim combines as (λ b. IsInOrder (if b then joined kinds x r ∷ xs else (x ∷ add_row combines kinds xs r))) [ true ↦ (ord.0, ord.1) | false ↦ behind (ap is_lt t) ]
      | Greater ↦ λ t. behind (ap is_lt t)
    ]
    refl

pub IsRising-add_row : (kinds : List Kind) (rows : List Row) (r : Row) → IsRising rows → IsRising (add_row true kinds rows r)
unfolding add_row
IsRising-add_row kinds [] r up = (tt, tt)
IsRising-add_row kinds (x ∷ xs) r up =
    elim (key_cmp r.key x.key) as (λ o. key_cmp r.key x.key ≡ o → IsRising (match_ordering o (r ∷ x ∷ xs) (joined kinds x r ∷ xs) (x ∷ add_row true kinds xs r))) [
      | Less ↦ λ t. ((t, AllByRecursion-implied (λ y. key_cmp x.key y.key ≡ Less) (λ y. key_cmp r.key y.key ≡ Less) (λ y h. key_cmp_total.trans r.key x.key y.key t h) xs up.0), up)
      | Equal ↦ λ t. (up.0, up.1)
      | Greater ↦ λ t. (AllByRecursion-add_row true kinds (λ k. key_cmp x.key k ≡ Less) xs r up.0 (greater_back r.key x.key t), IsRising-add_row kinds xs r up.1)
    ]
    refl

-- ---- rows of one key

pub combined-append : (kinds : List Kind) (metrics : List ℤ) (a b : List Row) → combined kinds metrics (a ++ b) ≡ combined kinds (combined kinds metrics a) b
combined-append kinds metrics [] b = refl
combined-append kinds metrics (r ∷ a) b = combined-append kinds (combine_columns kinds metrics r.metrics) a b

combined_front : (kinds : List Kind) (metrics first : List ℤ) (rs : List Row) → combine_columns kinds metrics (combined kinds first rs) ≡ combined kinds (combine_columns kinds metrics first) rs
combined_front kinds metrics first [] = refl
combined_front kinds metrics first (r ∷ rs) =
    combined_front kinds metrics (combine_columns kinds first r.metrics) rs ∙ ap (λ m. combined kinds m rs) (sym (combine_columns-assoc kinds metrics first r.metrics))

-- rows that were put together before others come
pub together_left : (combines : Bool) (kinds : List Kind) (a b : List Row) → together combines kinds (together combines kinds a ++ b) ≡ together combines kinds (a ++ b)
together_left true kinds [] b = refl
together_left true kinds (r ∷ a) b = ap (λ m. record { key = r.key; metrics = m } ∷ []) (sym (combined-append kinds r.metrics a b))
together_left false kinds a b = refl

-- and behind others
pub together_right : (combines : Bool) (kinds : List Kind) (a b : List Row) → together combines kinds (a ++ together combines kinds b) ≡ together combines kinds (a ++ b)
together_right true kinds [] [] = refl
together_right true kinds [] (r ∷ b) = refl
together_right true kinds (x ∷ a) [] = refl
together_right true kinds (x ∷ a) (r ∷ b) =
    ap (λ m. record { key = x.key; metrics = m } ∷ [])
    (combined-append kinds x.metrics a (record { key = r.key; metrics = combined kinds r.metrics b } ∷ []) ∙ combined_front kinds (combined kinds x.metrics a) r.metrics b ∙ sym (combined-append kinds x.metrics a (r ∷ b)))
together_right false kinds a b = refl

-- rising rows have one row of a key at most
together_rising : (kinds : List Kind) (q : Key) (rows : List Row) → IsRising rows → together true kinds (rows_at q rows) ≡ rows_at q rows
together_rising kinds q [] up = refl
together_rising kinds q (x ∷ xs) up =
    elim (key_cmp q x.key) as (λ o. key_cmp q x.key ≡ o → together true kinds (cond (is_eq o) (x ∷ rows_at q xs) (rows_at q xs)) ≡ cond (is_eq o) (x ∷ rows_at q xs) (rows_at q xs)) [
      | Less ↦ λ t. together_rising kinds q xs up.1
      | Equal ↦ λ t. rw (none_above q x xs up t) refl
      | Greater ↦ λ t. together_rising kinds q xs up.1
    ]
    refl

-- ---- the rows of a key after a row was added

-- a row that is put before rows with greater keys
put_first : (q : Key) (r x : Row) (xs : List Row) → IsInOrder (x ∷ xs) → key_cmp r.key x.key ≡ Less → rows_at q (r ∷ x ∷ xs) ≡ rows_at q (x ∷ xs) ++ rows_at q (r ∷ [])
put_first q r x xs ord less =
    elim (key_cmp q r.key) as (λ o. key_cmp q r.key ≡ o → cond (is_eq o) (r ∷ rows_at q (x ∷ xs)) (rows_at q (x ∷ xs)) ≡ rows_at q (x ∷ xs) ++ cond (is_eq o) (r ∷ []) []) [
      | Less ↦ λ t. sym (append-nil (rows_at q (x ∷ xs)))
      | Equal ↦ λ t. let none : rows_at q (x ∷ xs) ≡ [] = none_below q x xs ord (key_cmp_total.congr q r.key x.key t ∙ less) in ap (λ l. r ∷ l) none ∙ ap (λ l. l ++ r ∷ []) (sym none)
      | Greater ↦ λ t. sym (append-nil (rows_at q (x ∷ xs)))
    ]
    refl

rows_at-add_row_apart : (kinds : List Kind) (q : Key) (rows : List Row) (r : Row) → IsInOrder rows → rows_at q (add_row false kinds rows r) ≡ rows_at q rows ++ rows_at q (r ∷ [])
unfolding add_row
rows_at-add_row_apart kinds q [] r ord = refl
rows_at-add_row_apart kinds q (x ∷ xs) r ord =
    let more = rows_at-add_row_apart kinds q xs r ord.1 in
    let behind : rows_at q (x ∷ add_row false kinds xs r) ≡ rows_at q (x ∷ xs) ++ rows_at q (r ∷ []) =
    elim (eq_by_cmp key_cmp q x.key) as (λ b. cond b (x ∷ rows_at q (add_row false kinds xs r)) (rows_at q (add_row false kinds xs r)) ≡ cond b (x ∷ rows_at q xs) (rows_at q xs) ++ rows_at q (r ∷ []))
    [ true ↦ ap (λ l. x ∷ l) more | false ↦ more ] in
    elim (key_cmp r.key x.key) as (λ o. key_cmp r.key x.key ≡ o → rows_at q (match_ordering o (r ∷ x ∷ xs) (x ∷ add_row false kinds xs r) (x ∷ add_row false kinds xs r)) ≡ rows_at q (x ∷ xs) ++ rows_at q (r ∷ []))
    [ Less ↦ λ t. put_first q r x xs ord t | Equal ↦ λ t. behind | Greater ↦ λ t. behind ] refl

pub IsInOrder-from_rising : (rows : List Row) → IsRising rows → IsInOrder rows
IsInOrder-from_rising [] up = tt
IsInOrder-from_rising (x ∷ xs) up =
    (AllByRecursion-implied (λ y. key_cmp x.key y.key ≡ Less) (λ y. is_lt (key_cmp y.key x.key) ≡ false) (λ y h. ap is_lt (less_back x.key y.key h)) xs up.0, IsInOrder-from_rising xs up.1)

rows_at-add_row_joined : (kinds : List Kind) (q : Key) (rows : List Row) (r : Row) → IsRising rows → rows_at q (add_row true kinds rows r) ≡ together true kinds (rows_at q rows ++ rows_at q (r ∷ []))
unfolding add_row
rows_at-add_row_joined kinds q [] r up =
    elim (eq_by_cmp key_cmp q r.key) as (λ b. cond b (r ∷ []) [] ≡ together true kinds (cond b (r ∷ []) [])) [ true ↦ refl | false ↦ refl ]
rows_at-add_row_joined kinds q (x ∷ xs) r up =
    elim (key_cmp r.key x.key) as (λ o. key_cmp r.key x.key ≡ o → rows_at q (match_ordering o (r ∷ x ∷ xs) (joined kinds x r ∷ xs) (x ∷ add_row true kinds xs r)) ≡ together true kinds (rows_at q (x ∷ xs) ++ rows_at q (r ∷ []))) [
      | Less ↦ λ t.
          elim (key_cmp q r.key) as (λ o. key_cmp q r.key ≡ o → cond (is_eq o) (r ∷ rows_at q (x ∷ xs)) (rows_at q (x ∷ xs)) ≡ together true kinds (rows_at q (x ∷ xs) ++ cond (is_eq o) (r ∷ []) [])) [
            | Less ↦ λ u. sym (ap (together true kinds) (append-nil (rows_at q (x ∷ xs))) ∙ together_rising kinds q (x ∷ xs) up)
            | Equal ↦ λ u.
                let none : rows_at q (x ∷ xs) ≡ [] = none_below q x xs (IsInOrder-from_rising (x ∷ xs) up) (key_cmp_total.congr q r.key x.key u ∙ t) in
                ap (λ l. r ∷ l) none ∙ ap (λ l. together true kinds (l ++ r ∷ [])) (sym none)
            | Greater ↦ λ u. sym (ap (together true kinds) (append-nil (rows_at q (x ∷ xs))) ∙ together_rising kinds q (x ∷ xs) up)
          ]
          refl
      | Equal ↦ λ t.
          let alike : key_cmp q r.key ≡ key_cmp q x.key = alike_right key_cmp_total r.key x.key q t in
          elim (key_cmp q x.key) as (λ o. key_cmp q x.key ≡ o → cond (is_eq o) (joined kinds x r ∷ rows_at q xs) (rows_at q xs) ≡ together true kinds (cond (is_eq o) (x ∷ rows_at q xs) (rows_at q xs) ++ rows_at q (r ∷ []))) [
            | Less ↦ λ u. rw (alike, u) (sym (ap (together true kinds) (append-nil (rows_at q xs)) ∙ together_rising kinds q xs up.1))
            | Equal ↦ λ u. rw (none_above q x xs up u, alike, u) refl
            | Greater ↦ λ u. rw (alike, u) (sym (ap (together true kinds) (append-nil (rows_at q xs)) ∙ together_rising kinds q xs up.1))
          ]
          refl
      | Greater ↦ λ t.
          let more = rows_at-add_row_joined kinds q xs r up.1 in
          elim (key_cmp q x.key) as (λ o. key_cmp q x.key ≡ o → cond (is_eq o) (x ∷ rows_at q (add_row true kinds xs r)) (rows_at q (add_row true kinds xs r)) ≡ together true kinds (cond (is_eq o) (x ∷ rows_at q xs) (rows_at q xs) ++ rows_at q (r ∷ []))) [
            | Less ↦ λ u. more
            | Equal ↦ λ u.
                let other : key_cmp q r.key ≡ Less = key_cmp_total.congr q x.key r.key u ∙ greater_back r.key x.key t in
                ap (λ l. x ∷ l) more ∙ rw (none_above q x xs up u, other) refl
            | Greater ↦ λ u. more
          ]
          refl
    ]
    refl

-- ---- rollup

-- what the rows are while entries are added one by one
abbrev pub IsSound : (combines : Bool) → List Row → Type 0
IsSound true rows = IsRising rows
IsSound false rows = IsInOrder rows

pub IsSound-nil : (combines : Bool) → IsSound combines []
IsSound-nil true = tt
IsSound-nil false = tt

pub IsSound-add_row : (combines : Bool) (kinds : List Kind) (rows : List Row) (r : Row) → IsSound combines rows → IsSound combines (add_row combines kinds rows r)
IsSound-add_row true kinds rows r sound = IsRising-add_row kinds rows r sound
IsSound-add_row false kinds rows r sound = IsInOrder-add_row false kinds rows r sound

pub IsInOrder-from_sound : (combines : Bool) (rows : List Row) → IsSound combines rows → IsInOrder rows
IsInOrder-from_sound true rows sound = IsInOrder-from_rising rows sound
IsInOrder-from_sound false rows sound = sound

together_sound : (combines : Bool) (kinds : List Kind) (q : Key) (rows : List Row) → IsSound combines rows → together combines kinds (rows_at q rows) ≡ rows_at q rows
together_sound true kinds q rows sound = together_rising kinds q rows sound
together_sound false kinds q rows sound = refl

pub rows_at-add_row : (combines : Bool) (kinds : List Kind) (q : Key) (rows : List Row) (r : Row) → IsSound combines rows
    → rows_at q (add_row combines kinds rows r) ≡ together combines kinds (rows_at q rows ++ rows_at q (r ∷ []))
rows_at-add_row true kinds q rows r sound = rows_at-add_row_joined kinds q rows r sound
rows_at-add_row false kinds q rows r sound = rows_at-add_row_apart kinds q rows r sound

pub IsSound-rollup_onto : (combines : Bool) (kinds : List Kind) (rows es : List Row) → IsSound combines rows → IsSound combines (rollup_onto combines kinds rows es)
unfolding rollup_onto
IsSound-rollup_onto combines kinds rows [] sound = sound
IsSound-rollup_onto combines kinds rows (e ∷ es) sound = IsSound-rollup_onto combines kinds (add_row combines kinds rows e) es (IsSound-add_row combines kinds rows e sound)

rows_at-rollup_onto : (combines : Bool) (kinds : List Kind) (q : Key) (rows es : List Row) → IsSound combines rows
    → rows_at q (rollup_onto combines kinds rows es) ≡ together combines kinds (rows_at q rows ++ rows_at q es)
unfolding rollup_onto
rows_at-rollup_onto combines kinds q rows [] sound = sym (ap (together combines kinds) (append-nil (rows_at q rows)) ∙ together_sound combines kinds q rows sound)
rows_at-rollup_onto combines kinds q rows (e ∷ es) sound =
    rows_at-rollup_onto combines kinds q (add_row combines kinds rows e) es (IsSound-add_row combines kinds rows e sound)
    ∙ ap (λ l. together combines kinds (l ++ rows_at q es)) (rows_at-add_row combines kinds q rows e sound)
    ∙ together_left combines kinds (rows_at q rows ++ rows_at q (e ∷ [])) (rows_at q es)
    ∙ ap (together combines kinds) (append_assoc (rows_at q rows) (rows_at q (e ∷ [])) (rows_at q es) ∙ ap (λ l. rows_at q rows ++ l) (sym (rows_at-append q (e ∷ []) es)))

-- the rollup of entries is in the relation
pub IsRollup-rollup : (combines : Bool) (kinds : List Kind) (es : List Row) → IsRollup combines kinds es (rollup combines kinds es)
IsRollup-rollup combines kinds es = record {
  ordered = IsInOrder-from_sound combines (rollup combines kinds es) (IsSound-rollup_onto combines kinds [] es (IsSound-nil combines));
  each = λ q. rows_at-rollup_onto combines kinds q [] es (IsSound-nil combines);
}

-- it rises strictly, where rows are combined
pub IsRising-rollup : (kinds : List Kind) (es : List Row) → IsRising (rollup true kinds es)
IsRising-rollup kinds es = IsSound-rollup_onto true kinds [] es tt

-- one entry more
pub rollup_onto_push : (combines : Bool) (kinds : List Kind) (rows es : List Row) (e : Row) → rollup_onto combines kinds rows (es ++ e ∷ []) ≡ add_row combines kinds (rollup_onto combines kinds rows es) e
unfolding rollup_onto
rollup_onto_push combines kinds rows [] e = refl
rollup_onto_push combines kinds rows (d ∷ es) e = rollup_onto_push combines kinds (add_row combines kinds rows d) es e

-- what has the same rows at each key has the same rollup
pub same_from_each : (combines : Bool) (kinds : List Kind) (es others : List Row) → ((q : Key) → together combines kinds (rows_at q es) ≡ together combines kinds (rows_at q others))
    → rollup combines kinds es ≡ rollup combines kinds others
same_from_each combines kinds es others h =
    let own = IsRollup-rollup combines kinds others in
    let a : IsRollup combines kinds es (rollup combines kinds others) = record { ordered = own.ordered; each = λ q. own.each q ∙ sym (h q) } in
    same_rollup combines kinds es (rollup combines kinds es) (rollup combines kinds others) (IsRollup-rollup combines kinds es) a

-- a rollup of what comes behind
pub rollup_right : (combines : Bool) (kinds : List Kind) (a b : List Row) → rollup combines kinds (a ++ rollup combines kinds b) ≡ rollup combines kinds (a ++ b)
rollup_right combines kinds a b =
    same_from_each combines kinds (a ++ rollup combines kinds b) (a ++ b) (λ q.
    ap (together combines kinds) (rows_at-append q a (rollup combines kinds b) ∙ ap (λ l. rows_at q a ++ l) ((IsRollup-rollup combines kinds b).each q))
    ∙ together_right combines kinds (rows_at q a) (rows_at q b)
    ∙ ap (together combines kinds) (sym (rows_at-append q a b)))

-- a rollup of what comes first
pub rollup_left : (combines : Bool) (kinds : List Kind) (a b : List Row) → rollup combines kinds (rollup combines kinds a ++ b) ≡ rollup combines kinds (a ++ b)
rollup_left combines kinds a b =
    same_from_each combines kinds (rollup combines kinds a ++ b) (a ++ b) (λ q.
    ap (together combines kinds) (rows_at-append q (rollup combines kinds a) b ∙ ap (λ l. l ++ rows_at q b) ((IsRollup-rollup combines kinds a).each q))
    ∙ together_left combines kinds (rows_at q a) (rows_at q b)
    ∙ ap (together combines kinds) (sym (rows_at-append q a b)))

-- the rollup of two pieces is that of their rollups
pub rollup-append : (combines : Bool) (kinds : List Kind) (a b : List Row) → rollup combines kinds (a ++ b) ≡ rollup combines kinds (rollup combines kinds a ++ rollup combines kinds b)
rollup-append combines kinds a b = sym (rollup_left combines kinds a (rollup combines kinds b) ∙ rollup_right combines kinds a b)

-- and so of any number of pieces
pub rollup-all_rows : (combines : Bool) (kinds : List Kind) (lists : List (List Row)) → rollup combines kinds (all_rows lists) ≡ join combines kinds (map (rollup combines kinds) lists)
rollup-all_rows combines kinds [] = refl
rollup-all_rows combines kinds (rows ∷ lists) =
    sym (rollup_right combines kinds rows (all_rows lists))
    ∙ ap (λ l. rollup combines kinds (rows ++ l)) (rollup-all_rows combines kinds lists)
    ∙ rollup_right combines kinds rows (all_rows (map (rollup combines kinds) lists))
    ∙ sym (rollup_left combines kinds rows (all_rows (map (rollup combines kinds) lists)))

-- ---- rows with a value for each column

pub AllFit-add_row : (combines : Bool) (kinds : List Kind) (rows : List Row) (r : Row) → AllFit kinds rows → FitsColumns kinds r.metrics → AllFit kinds (add_row combines kinds rows r)
unfolding add_row
AllFit-add_row combines kinds [] r all one = (one, tt)
AllFit-add_row combines kinds (x ∷ xs) r all one =
    let more = AllFit-add_row combines kinds xs r all.1 one in
    elim (key_cmp r.key x.key) as (λ o. AllFit kinds (match_ordering o (r ∷ x ∷ xs) (if combines then joined kinds x r ∷ xs else (x ∷ add_row combines kinds xs r)) (x ∷ add_row combines kinds xs r))) [
      | Less ↦ (one, all)
      | Equal ↦ elim combines as (λ b. AllFit kinds (if b then joined kinds x r ∷ xs else (x ∷ add_row combines kinds xs r))) [ true ↦ (length-combine_columns kinds x.metrics r.metrics, all.1) | false ↦ (all.0, more) ]
      | Greater ↦ (all.0, more)
    ]

pub AllFit-rollup_onto : (combines : Bool) (kinds : List Kind) (rows es : List Row) → AllFit kinds rows → AllFit kinds es → AllFit kinds (rollup_onto combines kinds rows es)
unfolding rollup_onto
AllFit-rollup_onto combines kinds rows [] all each = all
AllFit-rollup_onto combines kinds rows (e ∷ es) all each = AllFit-rollup_onto combines kinds (add_row combines kinds rows e) es (AllFit-add_row combines kinds rows e all each.0) each.1

-- ---- keys that pass a test

list_any-add_row : (combines : Bool) (kinds : List Kind) (test : Key → Bool) (rows : List Row) (r : Row) → list_any (λ x. test x.key) (add_row combines kinds rows r) ≡ (test r.key || list_any (λ x. test x.key) rows)
unfolding add_row
list_any-add_row combines kinds test [] r = refl
list_any-add_row combines kinds test (x ∷ xs) r =
    let p : Row → Bool = λ y. test y.key in
    let behind : list_any p (x ∷ add_row combines kinds xs r) ≡ (test r.key || list_any p (x ∷ xs)) = ap (λ b. test x.key || b) (list_any-add_row combines kinds test xs r) ∙ or_moves (test x.key) (test r.key) (list_any p xs) in
    elim (key_cmp r.key x.key) as (λ o. key_cmp r.key x.key ≡ o → list_any p (match_ordering o (r ∷ x ∷ xs) (if combines then joined kinds x r ∷ xs else (x ∷ add_row combines kinds xs r)) (x ∷ add_row combines kinds xs r)) ≡ (test r.key || list_any p (x ∷ xs))) [
      | Less ↦ λ t. refl
      | Equal ↦ λ t. elim combines as (λ b. list_any p (if b then joined kinds x r ∷ xs else (x ∷ add_row combines kinds xs r)) ≡ (test r.key || list_any p (x ∷ xs)))
          [ true ↦ or_twice (test x.key) (list_any p xs) ∙ ap (λ k. test k || list_any p (x ∷ xs)) (sym (same_key r.key x.key t)) | false ↦ behind ]
      | Greater ↦ λ t. behind
    ]
    refl

list_any-rollup_onto : (combines : Bool) (kinds : List Kind) (test : Key → Bool) (rows es : List Row)
    → list_any (λ x. test x.key) (rollup_onto combines kinds rows es) ≡ (list_any (λ x. test x.key) rows || list_any (λ x. test x.key) es)
unfolding rollup_onto
list_any-rollup_onto combines kinds test rows [] = sym (or_false (list_any (λ x. test x.key) rows))
list_any-rollup_onto combines kinds test rows (e ∷ es) =
    let p : Row → Bool = λ y. test y.key in
    list_any-rollup_onto combines kinds test (add_row combines kinds rows e) es ∙ ap (λ b. b || list_any p es) (list_any-add_row combines kinds test rows e) ∙ or_moves_out (test e.key) (list_any p rows) (list_any p es)

pub list_any-rollup : (combines : Bool) (kinds : List Kind) (test : Key → Bool) (es : List Row) → list_any (λ x. test x.key) (rollup combines kinds es) ≡ list_any (λ x. test x.key) es
list_any-rollup combines kinds test es = list_any-rollup_onto combines kinds test [] es
