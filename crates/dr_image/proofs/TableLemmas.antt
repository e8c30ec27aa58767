-- Columns that were checked are those of the rows that are read from them.
use Rattle.std.proofs.Common.{◌≡◌, ◌∙◌, sym, refl, ap, ℕ, pos, zero, suc, ◌<◌, Bool, true, false, ◌||◌, List, [], ◌∷◌, length, map, get_or, bytes_eq, arith}
use Rattle.std.specs.List.{list_all, list_any, range_with_len}
use Rattle.std.specs.Str.{is_utf8}
use Rattle.std.specs.Cmp.Lexicographic.{bytes_decides}
use Rattle.std.proofs.lemmas.Bool.{and_parts, or_right}
use Rattle.std.proofs.lemmas.List.{get_or-map}
use Rattle.std.proofs.lemmas.List.FromFn.{length-map-range_with_len, get_or-map-range_with_len, fill_by_all}
use Rattle.dr_base.specs.declared.row.Row.{Row}
use Rattle.dr_image.specs.Pieces.{pieces, ends_fit}
use Rattle.dr_image.specs.Table.{Column, Table, no_column, value_at, row_at, rows_of}
use Rattle.dr_image.specs.Sealed.{each_next}
use Rattle.dr_image.specs.Image.{joined, dictionary_of, number_in, lists_of, column_by, column_of, values_of, metric_of, table_of}
use Rattle.dr_image.specs.Layout.{Part, column_in}
use Rattle.dr_image.specs.Opening.{is_below, is_dictionary, numbers_fit, is_index, texts_fit, row_lists_fit}
use Rattle.dr_image.specs.Checked.{column_at}
use Rattle.dr_image.specs.Laws.{sealed_by}
use Rattle.dr_image.proofs.PieceLemmas.{length-pieces}
use Rattle.dr_image.proofs.WholeLemmas.{joined_pieces}
use Rattle.dr_image.proofs.DictionaryLemmas.{dictionary_is, number_at_place, IsPlaced, placed}
use Rattle.dr_image.proofs.ReadingLemmas.{number_known}
use Rattle.dr_image.proofs.ListingLemmas.{HasRow, lists_are, row_of_value}

-- ---- lists

pub maps : {A B C : Type 0} (g : B → C) (f : A → B) (xs : List A) → map g (map f xs) ≡ map (λ x. g (f x)) xs
maps g f [] = refl
maps g f (x ∷ xs) = ap (λ ys. g (f x) ∷ ys) (maps g f xs)

pub any_there : (xs : List (List ℕ)) (i : ℕ) (t : List ℕ) → i < length xs → get_or xs i [] ≡ t → list_any (bytes_eq t) xs ≡ true
any_there [] i t lt is = absurd (omega arith)
any_there (x ∷ xs) zero t lt is = ap (λ b. b || list_any (bytes_eq t) xs) ((bytes_decides t x).1 (sym is))
any_there (x ∷ xs) (suc i) t lt is = or_right (bytes_eq t x) (list_any (bytes_eq t) xs) (any_there xs i t (omega arith) is)

pub same_tests : (a b : Bool) → (a ≡ true → b ≡ true) → (b ≡ true → a ≡ true) → a ≡ b
same_tests true b f g = sym (f refl)
same_tests false true f g = g refl
same_tests false false f g = refl

-- ---- a dimension

-- what was checked of a dimension of n rows
pub record IsListed (n : ℕ) (c : Column) : Type 0 where
  pub long : length c.numbers ≡ n
  pub utf8 : list_all is_utf8 c.dictionary ≡ true
  pub rises : each_next is_below c.dictionary ≡ true
  pub below : (i : ℕ) → i < n → get_or c.numbers i 0 < length c.dictionary
  pub lists : c.lists ≡ lists_of (length c.dictionary) c.numbers
  pub used : (v : ℕ) → v < length c.dictionary → HasRow c.numbers v

pub listed_by : (n : ℕ) (p : Part) → is_dictionary p ≡ true → numbers_fit p ≡ true → is_index p ≡ true → length p.numbers ≡ n → length p.rows ≡ n → length p.list_ends ≡ length p.ends → IsListed n (column_in p)
listed_by n p dictionary numbers index long rows ends =
    let texts : texts_fit (pieces 0 p.ends p.texts) ≡ true = (and_parts _ _ dictionary).1 in
    let t = and_parts _ _ texts in
    let i = and_parts (ends_fit 0 p.list_ends (length p.rows)) (row_lists_fit 0 p.numbers (pieces 0 p.list_ends p.rows)) index in
    let all : joined (pieces 0 p.list_ends p.rows) ≡ p.rows = joined_pieces 0 p.list_ends p.rows i.0 in
    let count : length (pieces 0 p.list_ends p.rows) ≡ length (pieces 0 p.ends p.texts) = length-pieces 0 p.list_ends p.rows ∙ ends ∙ sym (length-pieces 0 p.ends p.texts) in
    record {
      long = long;
      utf8 = t.0;
      rises = t.1;
      below = λ j lt. number_known p j numbers (omega arith);
      lists = lists_are p.numbers (pieces 0 p.list_ends p.rows) i.1 (ap length all ∙ rows ∙ sym long) ∙ ap (λ k. lists_of k p.numbers) count;
      used = λ v lt. row_of_value v p.numbers (pieces 0 p.list_ends p.rows) i.1 (omega (arith, count, lt));
    }

abbrev pub values_by : ℕ → Column → List (List ℕ)
values_by n c = map (value_at c) (range_with_len 0 n)

value_there : (n : ℕ) (c : Column) (i : ℕ) (t : List ℕ) → i < n → value_at c i ≡ t → list_any (bytes_eq t) (values_by n c) ≡ true
value_there n c i t lt is = any_there (values_by n c) i t (omega (arith, length-map-range_with_len (value_at c) 0 n)) (get_or-map-range_with_len (value_at c) 0 n i i [] lt (omega arith) ∙ is)

dictionary_again : (n : ℕ) (c : Column) → IsListed n c → c.dictionary ≡ dictionary_of (values_by n c)
dictionary_again n c listed = dictionary_is c.dictionary (values_by n c) listed.rises (λ t. same_tests _ _ (in_values t) (in_dictionary t))
  where
    long : length c.numbers ≡ n
    long = listed.long

    in_values : (t : List ℕ) → list_any (bytes_eq t) c.dictionary ≡ true → list_any (bytes_eq t) (values_by n c) ≡ true
    in_values t there =
        let p : IsPlaced c.dictionary t = placed c.dictionary t there in
        let r : HasRow c.numbers (number_in c.dictionary t) = listed.used (number_in c.dictionary t) p.inside in
        let inside : r.row < length c.numbers = r.inside in
        value_there n c r.row t (omega (arith, inside, long)) (ap (λ k. get_or c.dictionary k []) r.is ∙ p.is)

    in_dictionary : (t : List ℕ) → list_any (bytes_eq t) (values_by n c) ≡ true → list_any (bytes_eq t) c.dictionary ≡ true
    in_dictionary t there =
        let p : IsPlaced (values_by n c) t = placed (values_by n c) t there in
        let i : ℕ = number_in (values_by n c) t in
        let lt : i < length (values_by n c) = p.inside in
        let below : i < n = omega (arith, lt, length-map-range_with_len (value_at c) 0 n) in
        let is : value_at c i ≡ t = sym (get_or-map-range_with_len (value_at c) 0 n i i [] below (omega arith)) ∙ p.is in
        any_there c.dictionary (get_or c.numbers i 0) t (listed.below i below) is

numbers_again : (n : ℕ) (c : Column) → IsListed n c → map (number_in c.dictionary) (values_by n c) ≡ c.numbers
numbers_again n c listed =
    maps (number_in c.dictionary) (value_at c) (range_with_len 0 n)
    ∙ sym (fill_by_all (λ i. number_in c.dictionary (value_at c i)) c.numbers n 0 listed.long (λ k lt. sym (number_at_place c.dictionary (get_or c.numbers k 0) (value_at c k) listed.rises (listed.below k lt) refl)))

pub column_again : (n : ℕ) (c : Column) → IsListed n c → column_of (values_by n c) ≡ c
column_again n c listed =
    let d = sym (dictionary_again n c listed) in
    let k = numbers_again n c listed in
    let l = sym listed.lists in
    (λ i. column_by (d i) (values_by n c))
    ∙ (λ i. record { dictionary = c.dictionary; numbers = k i; lists = lists_of (length c.dictionary) (k i) })
    ∙ (λ i. record { dictionary = c.dictionary; numbers = c.numbers; lists = l i })

-- ---- all columns

pub record IsTable (t : Table) : Type 0 where
  pub columns : (d : ℕ) → d < length t.dims → IsListed (length t.times) (column_at t d)
  pub metrics : (m : ℕ) → m < length t.metrics → length (get_or t.metrics m []) ≡ length t.times

times_again : (t : Table) → map (λ (r : Row). r.key.time) (rows_of t) ≡ t.times
unfolding row_at
times_again t =
    maps (λ (r : Row). r.key.time) (row_at t) (range_with_len 0 (length t.times))
    ∙ sym (fill_by_all (λ k. get_or t.times k (pos 0)) t.times (length t.times) (pos 0) refl (λ k lt. refl))

metric_again : (t : Table) (m : ℕ) → IsTable t → m < length t.metrics → metric_of m (rows_of t) ≡ get_or t.metrics m []
unfolding row_at
metric_again t m table lt =
    let n : ℕ = length t.times in
    maps (λ (r : Row). get_or r.metrics m (pos 0)) (row_at t) (range_with_len 0 n)
    ∙ (λ i. map (λ k. get_or-map (λ ms. get_or ms k (pos 0)) t.metrics m [] (pos 0) lt i) (range_with_len 0 n))
    ∙ sym (fill_by_all (λ k. get_or (get_or t.metrics m []) k (pos 0)) (get_or t.metrics m []) n (pos 0) (table.metrics m lt) (λ k below. refl))

dim_again : (t : Table) (d : ℕ) → IsTable t → d < length t.dims → column_of (values_of d (rows_of t)) ≡ column_at t d
unfolding row_at
dim_again t d table lt =
    let n : ℕ = length t.times in
    let values : values_of d (rows_of t) ≡ values_by n (column_at t d) =
    maps (λ (r : Row). get_or r.key.dims d []) (row_at t) (range_with_len 0 n)
    ∙ (λ i. map (λ k. get_or-map (λ c. value_at c k) t.dims d no_column [] lt i) (range_with_len 0 n)) in
    ap column_of values ∙ column_again n (column_at t d) (table.columns d lt)

pub table_again : (t : Table) → IsTable t → table_of (sealed_by t) ≡ t
unfolding table_of
table_again t table =
    let times = times_again t in
    let metrics : map (λ m. metric_of m (rows_of t)) (range_with_len 0 (length t.metrics)) ≡ t.metrics =
    sym (fill_by_all (λ m. metric_of m (rows_of t)) t.metrics (length t.metrics) [] refl (λ m lt. sym (metric_again t m table lt))) in
    let dims : map (λ d. column_of (values_of d (rows_of t))) (range_with_len 0 (length t.dims)) ≡ t.dims =
    sym (fill_by_all (λ d. column_of (values_of d (rows_of t))) t.dims (length t.dims) no_column refl (λ d lt. sym (dim_again t d table lt))) in
    λ i. record { rollup = t.rollup; chunk = t.chunk; from = t.from; to = t.to; times = times i; metrics = metrics i; dims = dims i }
