-- The tokens of a row, put together, and the line that they are printed as.
use Rattle.std.proofs.Common.{◌≡◌, ◌∙◌, refl, sym, ap, ap₂, ℕ, ℤ, pos, negsuc, ◌+◌, ◌<◌, ◌≤◌, List, [], ◌∷◌, ◌++◌, map, take, length, get_or, Some, append_assoc, append-nil}
use Rattle.std.specs.Prelude.{slice_get}
use Rattle.std.specs.List.{flat_map}
use Rattle.std.specs.Fmt.{signed_decimal}
use Rattle.std.proofs.lemmas.Grind.{flat_map-append}
use Rattle.std.proofs.lemmas.List.{take_all, take_more}
use Rattle.std.proofs.lemmas.List.Folds.{flat_map-map}
use Rattle.std.proofs.lemmas.Option.{get_or_from_slice_get}
use Rattle.json.specs.Token.{Token, begin_array, end_array, number}
use Rattle.json.specs.Print.{print}
use Rattle.json.specs.Tree.{items_tokens}
use Rattle.serde_json.specs.Data.{Data}
use Rattle.serde_json.specs.View.{items_of}
use Rattle.serde_json.specs.Written.{compact_text, items_outline}
use Rattle.serde_json.proofs.Texts.{print-outline}
use Rattle.dr_image.specs.Table.{Table, row_at, value_at}
use Rattle.dr_dump.specs.Dump.{dimension_data, row_data, whole_number}
use Rattle.dr_dump.specs.Written.{all_tokens, data_tokens}

number_tokens : (z : ℤ) → data_tokens (whole_number z) ≡ number (signed_decimal z) ∷ []
number_tokens (pos n) = refl
number_tokens (negsuc n) = refl

-- ---- the columns of a row

one_more : {X : Type 0} (f : X → List Token) (xs : List X) (i : ℕ) (d : X) → i < length xs → flat_map f (take (i + 1) xs) ≡ flat_map f (take i xs) ++ f (get_or xs i d)
one_more f xs i d less =
    ap (flat_map f) (take_more xs i d less) ∙ flat_map-append f (take i xs) (get_or xs i d ∷ []) ∙ ap (λ l. flat_map f (take i xs) ++ l) (append-nil (f (get_or xs i d)))

pub dims_whole : (t : Table) (i n : ℕ) → length t.dims ≤ n → flat_map (λ c. data_tokens (dimension_data (value_at c i))) (take n t.dims) ≡ all_tokens (map dimension_data (row_at t i).key.dims)
unfolding row_at
dims_whole t i n all =
    ap (flat_map (λ c. data_tokens (dimension_data (value_at c i)))) (take_all n t.dims all)
    ∙ sym (flat_map-map data_tokens dimension_data (map (λ c. value_at c i) t.dims) ∙ flat_map-map (λ v. data_tokens (dimension_data v)) (λ c. value_at c i) t.dims)

pub metrics_whole : (t : Table) (i n : ℕ) → length t.metrics ≤ n
    → flat_map (λ m. data_tokens (whole_number (get_or m i (pos 0)))) (take n t.metrics) ≡ all_tokens (map whole_number (row_at t i).metrics)
unfolding row_at
metrics_whole t i n all =
    ap (flat_map (λ m. data_tokens (whole_number (get_or m i (pos 0))))) (take_all n t.metrics all)
    ∙ sym (flat_map-map data_tokens whole_number (map (λ m. get_or m i (pos 0)) t.metrics) ∙ flat_map-map (λ z. data_tokens (whole_number z)) (λ m. get_or m i (pos 0)) t.metrics)

-- one more metric is written
pub metric_more : (t0 t1 t2 : List Token) (ms : List (List ℤ)) (i m : ℕ) (v : ℤ) → m < length ms → slice_get (get_or ms m []) i ≡ Some v
    → t1 ≡ t0 ++ flat_map (λ m. data_tokens (whole_number (get_or m i (pos 0)))) (take m ms) → t2 ≡ t1 ++ number (signed_decimal v) ∷ []
    → t2 ≡ t0 ++ flat_map (λ m. data_tokens (whole_number (get_or m i (pos 0)))) (take (m + 1) ms)
metric_more t0 t1 t2 ms i m v less item e1 e2 =
    let cell : List ℤ → List Token = λ m. data_tokens (whole_number (get_or m i (pos 0))) in
    let here = get_or_from_slice_get (get_or ms m []) i v (pos 0) item in
    e2 ∙ ap (λ l. l ++ number (signed_decimal v) ∷ []) e1 ∙ append_assoc t0 (flat_map cell (take m ms)) (number (signed_decimal v) ∷ [])
    ∙ ap (λ l. t0 ++ l) (ap (λ l. flat_map cell (take m ms) ++ l) (sym (number_tokens v) ∙ ap (λ z. data_tokens (whole_number z)) (sym here)) ∙ sym (one_more cell ms m [] less))

-- ---- a row

items_all : (ds : List Data) → items_tokens (items_outline (items_of ds)) ≡ all_tokens ds ++ end_array ∷ []
items_all [] = refl
items_all (d ∷ ds) = ap (λ l. data_tokens d ++ l) (items_all ds) ∙ sym (append_assoc (data_tokens d) (all_tokens ds) (end_array ∷ []))

row_tokens : (t : Table) (i : ℕ) → data_tokens (row_data (row_at t i))
    ≡ begin_array ∷ number (signed_decimal (get_or t.times i (pos 0))) ∷ (all_tokens (map dimension_data (row_at t i).key.dims) ++ (all_tokens (map whole_number (row_at t i).metrics) ++ end_array ∷ []))
unfolding row_data row_at
row_tokens t i =
    let time = whole_number (get_or t.times i (pos 0)) in
    let dims = map dimension_data (row_at t i).key.dims in
    let metrics = map whole_number (row_at t i).metrics in
    ap (λ l. begin_array ∷ l) (items_all (time ∷ (dims ++ metrics))
    ∙ ap (λ l. (data_tokens time ++ l) ++ end_array ∷ []) (flat_map-append data_tokens dims metrics)
    ∙ append_assoc (data_tokens time) (all_tokens dims ++ all_tokens metrics) (end_array ∷ [])
    ∙ ap₂ ◌++◌ (number_tokens (get_or t.times i (pos 0))) (append_assoc (all_tokens dims) (all_tokens metrics) (end_array ∷ [])))

pub row_written : (t0 t1 t2 t3 t4 t5 : List Token) (t : Table) (i : ℕ) (v : ℤ) → slice_get t.times i ≡ Some v → t1 ≡ t0 ++ begin_array ∷ [] → t2 ≡ t1 ++ number (signed_decimal v) ∷ []
    → t3 ≡ t2 ++ all_tokens (map dimension_data (row_at t i).key.dims) → t4 ≡ t3 ++ all_tokens (map whole_number (row_at t i).metrics) → t5 ≡ t4 ++ end_array ∷ []
    → t5 ≡ t0 ++ data_tokens (row_data (row_at t i))
row_written t0 t1 t2 t3 t4 t5 t i v item e1 e2 e3 e4 e5 =
    let dims = all_tokens (map dimension_data (row_at t i).key.dims) in
    let metrics = all_tokens (map whole_number (row_at t i).metrics) in
    let here = get_or_from_slice_get t.times i v (pos 0) item in
    let parts : t5 ≡ t0 ++ begin_array ∷ number (signed_decimal v) ∷ (dims ++ (metrics ++ end_array ∷ [])) =
    e5 ∙ ap (λ l. l ++ end_array ∷ []) (e4 ∙ ap (λ l. l ++ metrics) (e3 ∙ ap (λ l. l ++ dims) (e2 ∙ ap (λ l. l ++ number (signed_decimal v) ∷ []) e1))) ∙ simp append_assoc in
    parts ∙ ap (λ z. t0 ++ begin_array ∷ number (signed_decimal z) ∷ (dims ++ (metrics ++ end_array ∷ []))) (sym here) ∙ ap (λ l. t0 ++ l) (sym (row_tokens t i))

-- ---- its line

pub line_put : (old mid new before : List ℕ) (ts : List Token) (d : Data) → before ≡ old → ts ≡ data_tokens d → mid ≡ before ++ print ts → new ≡ mid ++ 10 ∷ [] → new ≡ old ++ (compact_text d ++ 10 ∷ [])
line_put old mid new before ts d e1 e2 e3 e4 =
    e4 ∙ ap (λ l. l ++ 10 ∷ []) (e3 ∙ ap₂ ◌++◌ e1 (ap print e2 ∙ print-outline d)) ∙ append_assoc old (compact_text d) (10 ∷ [])
