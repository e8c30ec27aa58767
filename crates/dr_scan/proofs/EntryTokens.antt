-- The tokens of entries, put together from those of their rows.
use Rattle.std.proofs.Common.{◌≡◌, ◌∙◌, sym, refl, ap, ap₂, ℕ, zero, suc, ◌-◌, false, true≢false, List, [], ◌∷◌, ◌++◌, length, map, drop, codes, Option, Some, None, append_assoc, arith}
use Rattle.std.specs.List.{flat_map}
use Rattle.std.specs.Prelude.{nat_lt}
use Rattle.json.specs.Token.{Token, begin_object, end_object, begin_array, end_array, key}
use Rattle.json.specs.Tree.{items_tokens}
use Rattle.serde_json.specs.Data.{Data, string, array}
use Rattle.serde_json.specs.View.{items_of}
use Rattle.serde_json.specs.Written.{compact_text, items_outline}
use Rattle.serde_json.proofs.Texts.{print-outline}
use Rattle.json.specs.Print.{print}
use Rattle.std.proofs.lemmas.Bool.{lt-ltb}
use Rattle.std.proofs.lemmas.List.{append-nil}
use Rattle.dr_base.specs.declared.row.Row.{Row}
use Rattle.dr_ask.specs.declared.scan.Scan.{Scan}
use Rattle.dr_ask.specs.declared.scan_column.ScanColumn.{ScanColumn}
use Rattle.dr_writer.specs.Written.{data_tokens}
use Rattle.dr_answers.specs.Given.{limited}
use Rattle.dr_answers.specs.Selection.{selected}
use Rattle.dr_ask.specs.Asked.{Asked}
use Rattle.dr_scan.specs.declared.segment.Segment.{Segment}
use Rattle.dr_scan.specs.declared.window.Window.{Window}
use Rattle.dr_ask.specs.declared.time_order.TimeOrder.{TimeOrder}
use Rattle.dr_scan.specs.Entries.{Entry, batches, by_time, entries_by, entries_of, less, one_entry, selected_in, within}
use Rattle.dr_scan.specs.Places.{all_selected}
use Rattle.dr_scan.specs.Window.{has_left}
use Rattle.dr_scan.specs.ScanText.{row_data, identifier_data, entry_data}
use Rattle.dr_scan.specs.Written.{written_row, row_tokens, entry_front, entry_back, entry_tokens as written_entry, one_entry_tokens, segment_tokens, segments_tokens}
use Rattle.dr_scan.proofs.Batches.{rows_on-batches}
use Rattle.dr_scan.proofs.Pieces.{three-pieces}

-- the items of a list, and its end
pub items-flat : {A : Type 0} (f : A → Data) (xs : List A) → items_tokens (items_outline (items_of (map f xs))) ≡ flat_map (λ x. data_tokens (f x)) xs ++ end_array ∷ []
items-flat f [] = refl
items-flat f (x ∷ xs) = ap (λ t. data_tokens (f x) ++ t) (items-flat f xs) ∙ sym (append_assoc (data_tokens (f x)) (flat_map (λ x. data_tokens (f x)) xs) (end_array ∷ []))

same-flat : {A B : Type 0} (f g : A → List B) → ((x : A) → f x ≡ g x) → (xs : List A) → flat_map f xs ≡ flat_map g xs
same-flat f g h [] = refl
same-flat f g h (x ∷ xs) = λ i. h x i ++ same-flat f g h xs i

flat-append : {A B : Type 0} (f : A → List B) (xs ys : List A) → flat_map f (xs ++ ys) ≡ flat_map f xs ++ flat_map f ys
flat-append f [] ys = refl
flat-append f (x ∷ xs) ys = ap (λ t. f x ++ t) (flat-append f xs ys) ∙ sym (append_assoc (f x) (flat_map f xs) (flat_map f ys))

flat-map : {A B C : Type 0} (f : B → List C) (g : A → B) (xs : List A) → flat_map f (map g xs) ≡ flat_map (λ x. f (g x)) xs
flat-map f g [] = refl
flat-map f g (x ∷ xs) = ap (λ t. f (g x) ++ t) (flat-map f g xs)

abbrev segment : List ℕ → List Row → Segment
segment identifier rows = record { identifier = identifier; rows = rows }

abbrev entry : List ℕ → List Row → Entry
entry identifier rows = record { segment_id = Some identifier; rows = rows }

-- rows are written by these columns
abbrev pub AreWritten : Scan → List ScanColumn → Type 0
AreWritten s columns = (r : Row) → written_row s.result_format columns r ≡ row_data s.result_format s.columns r

-- a list of values
items-all : (ds : List Data) → items_tokens (items_outline (items_of ds)) ≡ flat_map data_tokens ds ++ end_array ∷ []
items-all [] = refl
items-all (d ∷ ds) = ap (λ t. data_tokens d ++ t) (items-all ds) ∙ sym (append_assoc (data_tokens d) (flat_map data_tokens ds) (end_array ∷ []))

pub list-tokens : (ds : List Data) (t0 t1 t2 t3 : List Token) → t1 ≡ t0 ++ begin_array ∷ [] → t2 ≡ t1 ++ flat_map data_tokens ds → t3 ≡ t2 ++ end_array ∷ [] → t3 ≡ t0 ++ data_tokens (array (items_of ds))
list-tokens ds t0 t1 t2 t3 e1 e2 e3 =
    three-pieces t0 t1 t2 t3 (begin_array ∷ []) (flat_map data_tokens ds) (end_array ∷ []) e1 e2 e3
    ∙ ap (λ t. t0 ++ begin_array ∷ t) (sym (items-all ds))

-- what is printed is the text of the value
pub printed : (d : Data) (before text : List ℕ) (tokens : List Token) → before ≡ [] → tokens ≡ data_tokens d → text ≡ before ++ print tokens → text ≡ compact_text d
printed d before text tokens none is whole = whole ∙ ap (λ b. b ++ print tokens) none ∙ ap print is ∙ print-outline d

put-together : (a r i : List Token) (b c e f g h k : Token)
    → b ∷ c ∷ (a ++ (e ∷ ((f ∷ (r ++ g ∷ [])) ++ (h ∷ (i ++ k ∷ []))))) ≡ (b ∷ c ∷ (a ++ e ∷ f ∷ [])) ++ (r ++ (g ∷ h ∷ (i ++ k ∷ [])))
put-together a r i b c e f g h k = simp append_assoc

-- of no row more
pub none-after : (q : Asked) (s : Scan) (columns : List ScanColumn) (w : Window) (gs : List Segment) → has_left w.left ≡ false → segments_tokens q s columns w gs ≡ []
none-after q s columns w gs over = at w.skip w.left gs over
  where
    at : (skip : ℕ) (left : Option ℕ) (gs : List Segment) → has_left left ≡ false → segments_tokens q s columns (record { skip = skip; left = left }) gs ≡ []
    at skip left [] over = refl
    at skip None (g ∷ gs) over = absurd (cc)
    at skip (Some zero) (g ∷ gs) over = at (skip - length (selected q g.rows)) (Some (0 - (length (selected q g.rows) - skip))) gs (nothing (length (selected q g.rows) - skip))
      where
        nothing : (n : ℕ) → nat_lt 0 (0 - n) ≡ false
        nothing n = let none : 0 - n ≡ 0 = omega arith in ap (nat_lt 0) none
    at skip (Some (suc n)) (g ∷ gs) over = absurd (true≢false (sym (lt-ltb 0 (suc n) (omega arith)) ∙ over))

module _ (s : Scan) (columns : List ScanColumn) (written : AreWritten s columns) where
  abbrev entry_tokens : Entry → List Token
  entry_tokens e = data_tokens (entry_data s e)

  abbrev row : Row → List Token
  row = row_tokens s.result_format columns

  rows-flat : (rows : List Row) → items_tokens (items_outline (items_of (map (row_data s.result_format s.columns) rows))) ≡ flat_map row rows ++ end_array ∷ []
  rows-flat rows =
      items-flat (row_data s.result_format s.columns) rows
      ∙ ap (λ t. t ++ end_array ∷ []) (same-flat (λ r. data_tokens (row_data s.result_format s.columns r)) row (λ r. ap data_tokens (sym (written r))) rows)

  whole-entry : (e : Entry) → entry_tokens e ≡ entry_front s.columns ++ (flat_map row e.rows ++ entry_back e.segment_id)
  whole-entry e =
      let names : List Token = data_tokens (array (items_of (map (λ c. string c.name) s.columns))) in
      let id : List Token = data_tokens (identifier_data e.segment_id) in
      ap (λ t. begin_object ∷ key (codes "columns") ∷ (names ++ (key (codes "events") ∷ ((begin_array ∷ t) ++ (key (codes "segmentId") ∷ (id ++ end_object ∷ [])))))) (rows-flat e.rows)
      ∙ put-together names (flat_map row e.rows) id begin_object (key (codes "columns")) (key (codes "events")) begin_array end_array (key (codes "segmentId")) end_object

  pub entries-flat : (es : List Entry) → flat_map (written_entry s columns) es ≡ flat_map data_tokens (map (entry_data s) es)
  entries-flat es = same-flat (written_entry s columns) entry_tokens (λ e. sym (whole-entry e)) es ∙ sym (flat-map data_tokens (entry_data s) es)

  pub one-entry : (rows : List Row) → one_entry_tokens s columns rows ≡ flat_map data_tokens (map (entry_data s) (one_entry rows))
  one-entry [] = refl
  one-entry (r ∷ rs) = sym (whole-entry (record { segment_id = None; rows = r ∷ rs })) ∙ sym (append-nil (entry_tokens (record { segment_id = None; rows = r ∷ rs })))

  segment-entries : (identifier : List ℕ) (rows : List Row)
      → segment_tokens s columns identifier 0 rows ≡ flat_map entry_tokens (entries_of s.batch_size (segment identifier rows))
  segment-entries identifier rows =
      rows_on-batches (entry_front s.columns) (entry_back (Some identifier)) row s.batch_size rows
      ∙ same-flat (λ rs. entry_front s.columns ++ (flat_map row rs ++ entry_back (Some identifier))) (λ rs. entry_tokens (entry identifier rs)) (λ rs. sym (whole-entry (entry identifier rs))) (batches s.batch_size rows)
      ∙ sym (flat-map entry_tokens (entry identifier) (batches s.batch_size rows))

  segments-each : (q : Asked) (offset : ℕ) (limit : Option ℕ) (gs : List Segment)
      → segments_tokens q s columns (record { skip = offset; left = limit }) gs ≡ flat_map entry_tokens (flat_map (entries_of s.batch_size) (within offset limit (map (selected_in q) gs)))
  segments-each q offset limit [] = refl
  segments-each q offset limit (g ∷ gs) =
      let rows : List Row = selected q g.rows in
      ap₂ ◌++◌ (segment-entries g.identifier (limited limit (drop offset rows))) (segments-each q (offset - length rows) (less limit (length rows - offset)) gs)
      ∙ sym (flat-append entry_tokens (entries_of s.batch_size (segment g.identifier (limited limit (drop offset rows)))) (flat_map (entries_of s.batch_size) (within (offset - length rows) (less limit (length rows - offset)) (map (selected_in q) gs))))

  -- the entries without an order, and with one
  pub entries-unordered : (q : Asked) (gs : List Segment) → s.order ≡ None
      → segments_tokens q s columns (record { skip = s.offset; left = s.limit }) gs ≡ flat_map data_tokens (map (entry_data s) (entries_by s.order s (map (selected_in q) gs)))
  entries-unordered q gs is =
      segments-each q s.offset s.limit gs ∙ sym (flat-map data_tokens (entry_data s) (entries_by None s (map (selected_in q) gs)))
      ∙ ap (λ (o : Option TimeOrder). flat_map data_tokens (map (entry_data s) (entries_by o s (map (selected_in q) gs)))) (sym is)

  pub entries-ordered : (q : Asked) (gs : List Segment) (order : TimeOrder) → s.order ≡ Some order
      → one_entry_tokens s columns (limited s.limit (drop s.offset (by_time order (all_selected q (map (λ (g : Segment). g.rows) gs))))) ≡ flat_map data_tokens (map (entry_data s) (entries_by s.order s (map (selected_in q) gs)))
  entries-ordered q gs order is =
      one-entry (limited s.limit (drop s.offset (by_time order (all_selected q (map (λ (g : Segment). g.rows) gs)))))
      ∙ ap (λ (rows : List Row). flat_map data_tokens (map (entry_data s) (one_entry (limited s.limit (drop s.offset (by_time order rows)))))) (flat-map (selected q) (λ (g : Segment). g.rows) gs ∙ sym (flat-map (λ (g : Segment). g.rows) (selected_in q) gs))
      ∙ ap (λ (o : Option TimeOrder). flat_map data_tokens (map (entry_data s) (entries_by o s (map (selected_in q) gs)))) (sym is)
