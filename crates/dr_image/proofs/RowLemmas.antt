-- The columns of rows have what is checked of columns, and stand for the rows.
use Rattle.std.proofs.Common.{◌≡◌, ◌∙◌, sym, refl, ap, subst, ℕ, pos, zero, suc, ◌+◌, ◌<◌, ◌≤◌, Bool, true, false, cond, List, [], ◌∷◌, length, map, drop, get_or, bytes_eq, arith, IsUtf8, ◌==◌}
use Rattle.std.specs.List.{list_all, range_with_len, AllByRecursion}
use Rattle.std.specs.Str.{is_utf8}
use Rattle.std.proofs.lemmas.Str.{is_utf8-from_IsUtf8}
use Rattle.std.proofs.lemmas.Bool.{and_parts, and_from, lt-ltb, le-leb, eq-eqb, eqb-true}
use Rattle.std.proofs.lemmas.List.{length-map, get_or-map, get_or_default, length-append, get_or-drop, drop-drop, length-drop}
use Rattle.std.proofs.lemmas.List.FromFn.{length-map-range_with_len, fill_by_all}
use Rattle.dr_base.specs.declared.row.Row.{Row}
use Rattle.dr_image.specs.Table.{Table, value_at, row_at, rows_of}
use Rattle.dr_image.specs.Sealed.{Sealed, HasImage, IsRowOf}
use Rattle.dr_image.specs.Image.{with_value, dictionary_of, number_in, rows_with, joined, column_of, values_of, metric_of, table_of}
use Rattle.dr_image.specs.Opening.{is_below, rows_have, is_row_list, row_lists_fit}
use Rattle.dr_image.specs.Laws.{sealed_by}
use Rattle.dr_image.proofs.DictionaryLemmas.{dictionary_ascends, any_dictionary, number_at_place, IsPlaced, placed}
use Rattle.dr_image.proofs.ListingLemmas.{HasRow, total}
use Rattle.dr_image.proofs.TableLemmas.{IsListed, maps, any_there}

-- ---- a dimension

all_with_value : (p : List ℕ → Bool) (v : List ℕ) (ws : List (List ℕ)) → p v ≡ true → list_all p ws ≡ true → list_all p (with_value v ws) ≡ true
unfolding with_value
all_with_value p v [] here all = and_from _ _ here refl
all_with_value p v (w ∷ ws) here all =
    let q = and_parts (p w) (list_all p ws) all in
    let rest = all_with_value p v ws here q.1 in
    elim (is_below v w) as (λ b. list_all p (cond b (v ∷ w ∷ ws) (cond (bytes_eq v w) (w ∷ ws) (w ∷ with_value v ws))) ≡ true) [
      | true ↦ and_from _ _ here all
      | false ↦ elim (bytes_eq v w) as (λ b. list_all p (cond b (w ∷ ws) (w ∷ with_value v ws)) ≡ true) [ true ↦ all | false ↦ and_from _ _ q.0 rest ]
    ]

all_dictionary : (vs : List (List ℕ)) → AllByRecursion IsUtf8 vs → list_all is_utf8 (dictionary_of vs) ≡ true
unfolding dictionary_of
all_dictionary [] all = refl
all_dictionary (v ∷ vs) all = all_with_value is_utf8 v (dictionary_of vs) (is_utf8-from_IsUtf8 v all.0) (all_dictionary vs all.1)

placed_at : (vs : List (List ℕ)) (i : ℕ) → i < length vs → IsPlaced (dictionary_of vs) (get_or vs i [])
placed_at vs i lt = placed (dictionary_of vs) (get_or vs i []) (any_dictionary (get_or vs i []) vs ∙ any_there vs i (get_or vs i []) lt refl)

abbrev numbers_of : List (List ℕ) → List ℕ
numbers_of vs = map (number_in (dictionary_of vs)) vs

number_at : (vs : List (List ℕ)) (i : ℕ) → i < length vs → get_or (numbers_of vs) i 0 ≡ number_in (dictionary_of vs) (get_or vs i [])
number_at vs i lt = get_or-map (number_in (dictionary_of vs)) vs i [] 0 lt

used_value : (vs : List (List ℕ)) (v : ℕ) → v < length (dictionary_of vs) → HasRow (numbers_of vs) v
used_value vs v lt =
    let ds : List (List ℕ) = dictionary_of vs in
    let t : List ℕ = get_or ds v [] in
    let p : IsPlaced vs t = placed vs t (sym (any_dictionary t vs) ∙ any_there ds v t lt refl) in
    let i : ℕ = number_in vs t in
    let inside : i < length vs = p.inside in
    record {
      row = i;
      inside = omega (arith, inside, length-map vs (number_in ds));
      is = number_at vs i inside ∙ ap (number_in ds) p.is ∙ number_at_place ds v t (dictionary_ascends vs) lt refl;
    }

pub listed_values : (vs : List (List ℕ)) → AllByRecursion IsUtf8 vs → IsListed (length vs) (column_of vs)
listed_values vs utf8 = record {
  long = length-map vs (number_in (dictionary_of vs));
  utf8 = all_dictionary vs utf8;
  rises = dictionary_ascends vs;
  below = λ i lt. (let e = number_at vs i lt in let inside = (placed_at vs i lt).inside in omega (arith, e, inside));
  lists = refl;
  used = used_value vs;
}

value_again : (vs : List (List ℕ)) (i : ℕ) → i < length vs → value_at (column_of vs) i ≡ get_or vs i []
value_again vs i lt = ap (λ k. get_or (dictionary_of vs) k []) (number_at vs i lt) ∙ (placed_at vs i lt).is

-- ---- the rows

dims_again : (dims k : ℕ) (rows : List Row) (r : Row) → k < length rows → get_or rows k r ≡ r → length r.key.dims ≡ dims
    → r.key.dims ≡ map (λ c. value_at c k) (map (λ d. column_of (values_of d rows)) (range_with_len 0 dims))
dims_again dims k rows r lt is long =
    let one : (d : ℕ) → value_at (column_of (values_of d rows)) k ≡ get_or r.key.dims d [] = λ d.
    value_again (values_of d rows) k (omega (arith, lt, length-map rows (λ (q : Row). get_or q.key.dims d [])))
    ∙ get_or-map (λ (q : Row). get_or q.key.dims d []) rows k r [] lt ∙ ap (λ (q : Row). get_or q.key.dims d []) is in
    fill_by_all (λ d. get_or r.key.dims d []) r.key.dims dims [] long (λ d below. refl)
    ∙ (λ i. map (λ d. sym (one d) i) (range_with_len 0 dims))
    ∙ sym (maps (λ c. value_at c k) (λ d. column_of (values_of d rows)) (range_with_len 0 dims))

metrics_again : (metrics k : ℕ) (rows : List Row) (r : Row) → k < length rows → get_or rows k r ≡ r → length r.metrics ≡ metrics
    → r.metrics ≡ map (λ zs. get_or zs k (pos 0)) (map (λ m. metric_of m rows) (range_with_len 0 metrics))
metrics_again metrics k rows r lt is long =
    let one : (m : ℕ) → get_or (metric_of m rows) k (pos 0) ≡ get_or r.metrics m (pos 0) = λ m.
    get_or-map (λ (q : Row). get_or q.metrics m (pos 0)) rows k r (pos 0) lt ∙ ap (λ (q : Row). get_or q.metrics m (pos 0)) is in
    fill_by_all (λ m. get_or r.metrics m (pos 0)) r.metrics metrics (pos 0) long (λ m below. refl)
    ∙ (λ i. map (λ m. sym (one m) i) (range_with_len 0 metrics))
    ∙ sym (maps (λ zs. get_or zs k (pos 0)) (λ m. metric_of m rows) (range_with_len 0 metrics))

row_again : (s : Sealed) (k : ℕ) (r : Row) → k < length s.rows → get_or s.rows k r ≡ r → IsRowOf s r → r ≡ row_at (table_of s) k
unfolding table_of row_at
row_again s k r lt is row =
    let time : r.key.time ≡ get_or (map (λ (q : Row). q.key.time) s.rows) k (pos 0) = sym (get_or-map (λ (q : Row). q.key.time) s.rows k r (pos 0) lt ∙ ap (λ (q : Row). q.key.time) is) in
    let dims = dims_again s.dims k s.rows r lt is row.dims in
    let metrics = metrics_again s.metrics k s.rows r lt is row.metrics in
    λ i. record { key = record { time = time i; dims = dims i }; metrics = metrics i }

pub times_long : (s : Sealed) → length (table_of s).times ≡ length s.rows
unfolding table_of
times_long s = length-map s.rows (λ (r : Row). r.key.time)

pub rows_again : (s : Sealed) → HasImage s → rows_of (table_of s) ≡ s.rows
rows_again s has =
    let t : Table = table_of s in
    let n : ℕ = length t.times in
    let x : Row = row_at t 0 in
    let long = times_long s in
    sym (fill_by_all (row_at t) s.rows n x (sym long) (λ k lt.
    let below : k < length s.rows = omega (arith, lt, long) in
    row_again s k (get_or s.rows k x) below (get_or_default s.rows k (get_or s.rows k x) x below) (has.rows k x below)))

pub sealed_again : (s : Sealed) → HasImage s → sealed_by (table_of s) ≡ s
unfolding table_of
sealed_again s has =
    let dims : length (map (λ d. column_of (values_of d s.rows)) (range_with_len 0 s.dims)) ≡ s.dims = length-map-range_with_len (λ d. column_of (values_of d s.rows)) 0 s.dims in
    let metrics : length (map (λ m. metric_of m s.rows) (range_with_len 0 s.metrics)) ≡ s.metrics = length-map-range_with_len (λ m. metric_of m s.rows) 0 s.metrics in
    let rows = rows_again s has in
    λ i. record { rollup = s.rollup; dims = dims i; metrics = metrics i; chunk = s.chunk; from = s.from; to = s.to; rows = rows i }

-- ---- row lists

rows_rise : (i v least : ℕ) (ns numbers : List ℕ) → ns ≡ drop i numbers → least ≤ i → rows_have least v numbers (rows_with i v ns) ≡ true
unfolding rows_with rows_have
rows_rise i v least [] numbers at le = refl
rows_rise i v least (n ∷ ns) numbers at le =
    let here : n ≡ get_or numbers i 0 = ap (λ (xs : List ℕ). get_or xs 0 0) at ∙ get_or-drop i numbers 0 0 ∙ ap (λ k. get_or numbers k 0) (omega arith) in
    let rest : ns ≡ drop (i + 1) numbers = ap (drop 1) at ∙ drop-drop 1 i numbers in
    let inside : i < length numbers = (let e : length (n ∷ ns) ≡ length (drop i numbers) = ap length at in omega (arith, e, length-drop i numbers)) in
    elim (n == v) as (λ b. (n == v) ≡ b → rows_have least v numbers (cond b (i ∷ rows_with (i + 1) v ns) (rows_with (i + 1) v ns)) ≡ true) [
      | true ↦ λ e. and_from _ _ (le-leb least i le) (and_from _ _ (and_from _ _ (lt-ltb i (length numbers) inside) (eq-eqb _ _ (sym here ∙ eqb-true n v e))) (rows_rise (i + 1) v (i + 1) ns numbers rest (omega arith)))
      | false ↦ λ e. rows_rise (i + 1) v least ns numbers rest (omega (arith, le))
    ]
    refl

rows_some : (i v k : ℕ) (ns : List ℕ) → k < length ns → get_or ns k 0 ≡ v → 0 < length (rows_with i v ns)
unfolding rows_with
rows_some i v k [] lt is = absurd (omega arith)
rows_some i v zero (n ∷ ns) lt is =
    subst (λ b. 0 < length (cond b (i ∷ rows_with (i + 1) v ns) (rows_with (i + 1) v ns))) (sym (eq-eqb n v is)) (omega arith)
rows_some i v (suc k) (n ∷ ns) lt is =
    let rest = rows_some (i + 1) v k ns (omega arith) is in
    elim (n == v) as (λ b. 0 < length (cond b (i ∷ rows_with (i + 1) v ns) (rows_with (i + 1) v ns))) [ true ↦ omega arith | false ↦ rest ]

row_list_of : (v : ℕ) (numbers : List ℕ) → HasRow numbers v → is_row_list v numbers (rows_with 0 v numbers) ≡ true
row_list_of v numbers row = and_from _ _ (lt-ltb 0 (length (rows_with 0 v numbers)) (rows_some 0 v row.row numbers row.inside row.is)) (rows_rise 0 v 0 numbers numbers refl (omega arith))

pub row_lists_of : (start k : ℕ) (numbers : List ℕ) → ((v : ℕ) → v < start + k → HasRow numbers v) → row_lists_fit start numbers (map (λ v. rows_with 0 v numbers) (range_with_len start k)) ≡ true
unfolding row_lists_fit
row_lists_of start zero numbers used = refl
row_lists_of start (suc k) numbers used = and_from _ _ (row_list_of start numbers (used start (omega arith))) (row_lists_of (start + 1) k numbers (λ v lt. used v (omega (arith, lt))))

pub joined_total : (start k : ℕ) (ns : List ℕ) → length (joined (map (λ v. rows_with 0 v ns) (range_with_len start k))) ≡ total start k ns
unfolding total
joined_total start zero ns = refl
joined_total start (suc k) ns = length-append (rows_with 0 start ns) (joined (map (λ v. rows_with 0 v ns) (range_with_len (start + 1) k))) ∙ ap (λ n. length (rows_with 0 start ns) + n) (joined_total (start + 1) k ns)
