-- The rows of a segment one after the other, as a loop reads them.
use Rattle.std.proofs.Common.{◌≡◌, ◌∙◌, sym, ap, ℕ, ◌+◌, ◌==◌, ◌<◌, ◌≤◌, Bool, true, false, cond, List, [], ◌∷◌, ◌++◌, drop, length, Some, append_assoc, arith}
use Rattle.std.specs.Prelude.{slice_get, unwrap_or}
use Rattle.std.proofs.lemmas.List.{drop_more}
use Rattle.std.proofs.lemmas.Option.{unwrap_or-slice_get}
use Rattle.std.specs.List.{flat_map}
use Rattle.json.specs.Token.{Token}
use Rattle.dr_answers.specs.Selection.{selected, selects}
use Rattle.dr_ask.specs.Asked.{Asked}
use Rattle.dr_base.specs.declared.row.Row.{Row}
use Rattle.dr_scan.specs.declared.row_place.RowPlace.{RowPlace}
use Rattle.dr_scan.specs.declared.window.Window.{Window}
use Rattle.dr_scan.specs.Places.{places_in}
use Rattle.dr_scan.specs.Rows.{row_in, no_row}
use Rattle.dr_scan.specs.Written.{count_with}
use Rattle.dr_scan.specs.Window.{after, given, moved, takes}
use Rattle.dr_scan.proofs.Windows.{given-more, after-more}

-- a row that is found is that one
pub row_in-found : (rows : List Row) (n : ℕ) (r : Row) → slice_get rows n ≡ Some r → row_in rows n ≡ r
row_in-found rows n r h = ap (λ o. unwrap_or o no_row) h

pub next-row : (rows : List Row) (n : ℕ) → n < length rows → drop n rows ≡ row_in rows n ∷ drop (n + 1) rows
next-row rows n less = drop_more rows n no_row less ∙ ap (λ r. r ∷ drop (n + 1) rows) (sym (unwrap_or-slice_get rows n no_row))

module _ (q : Asked) (rows : List Row) (n : ℕ) (less : n < length rows) where
  abbrev rest : List Row
  rest = drop (n + 1) rows

  selected-next : (b : Bool) → selects q (row_in rows n).key ≡ b → selected q (drop n rows) ≡ cond b (row_in rows n ∷ selected q rest) (selected q rest)
  selected-next b is = ap (selected q) (next-row rows n less) ∙ ap (λ (c : Bool). cond c (row_in rows n ∷ selected q rest) (selected q rest)) is

  places-next : (segment : ℕ) (b : Bool) → selects q (row_in rows n).key ≡ b
      → places_in q segment n (drop n rows) ≡ cond b (record { time = (row_in rows n).key.time; segment = segment; row = n } ∷ places_in q segment (n + 1) rest) (places_in q segment (n + 1) rest)
  places-next segment b is =
      let p : RowPlace = record { time = (row_in rows n).key.time; segment = segment; row = n } in
      ap (places_in q segment n) (next-row rows n less) ∙ ap (λ (c : Bool). cond c (p ∷ places_in q segment (n + 1) rest) (places_in q segment (n + 1) rest)) is

  -- a row that isn't selected has no place, and one that is has this one
  pub places-skip : (before whole : List RowPlace) (segment : ℕ) → selects q (row_in rows n).key ≡ false → before ++ places_in q segment n (drop n rows) ≡ whole → before ++ places_in q segment (n + 1) rest ≡ whole
  places-skip before whole segment is h = ap (λ ps. before ++ ps) (sym (places-next segment false is)) ∙ h

  pub places-take : (before after whole : List RowPlace) (p : RowPlace) (segment : ℕ) → selects q (row_in rows n).key ≡ true → p ≡ record { time = (row_in rows n).key.time; segment = segment; row = n }
      → after ≡ before ++ p ∷ [] → before ++ places_in q segment n (drop n rows) ≡ whole → after ++ places_in q segment (n + 1) rest ≡ whole
  places-take before after whole p segment is is_p pushed h =
      ap (λ ps. ps ++ places_in q segment (n + 1) rest) pushed ∙ append_assoc before (p ∷ []) (places_in q segment (n + 1) rest)
      ∙ ap (λ (x : RowPlace). before ++ x ∷ places_in q segment (n + 1) rest) is_p ∙ ap (λ ps. before ++ ps) (sym (places-next segment true is)) ∙ h

  -- ---- within a window

  -- a row that isn't selected
  pub given-skip : (w : Window) → selects q (row_in rows n).key ≡ false → given w (selected q (drop n rows)) ≡ given w (selected q rest)
  given-skip w is = ap (given w) (selected-next false is)

  pub after-skip : (w : Window) → selects q (row_in rows n).key ≡ false → after w (length (selected q (drop n rows))) ≡ after w (length (selected q rest))
  after-skip w is = ap (λ (rs : List Row). after w (length rs)) (selected-next false is)

  -- a row that is, and whether the window takes it
  pub given-next : (w v : Window) (b : Bool) → selects q (row_in rows n).key ≡ true → takes w ≡ b → v ≡ moved w
      → given w (selected q (drop n rows)) ≡ cond b (row_in rows n ∷ given v (selected q rest)) (given v (selected q rest))
  given-next w v b is taken is_v =
      ap (given w) (selected-next true is) ∙ given-more w (row_in rows n) (selected q rest)
      ∙ ap (λ (c : Bool). cond c (row_in rows n ∷ given (moved w) (selected q rest)) (given (moved w) (selected q rest))) taken
      ∙ ap (λ (u : Window). cond b (row_in rows n ∷ given u (selected q rest)) (given u (selected q rest))) (sym is_v)

  pub after-next : (w v : Window) → selects q (row_in rows n).key ≡ true → v ≡ moved w → after w (length (selected q (drop n rows))) ≡ after v (length (selected q rest))
  after-next w v is is_v =
      ap (λ (rs : List Row). after w (length rs)) (selected-next true is)
      ∙ ap (after w) (omega arith)
      ∙ sym (after-more w (length (selected q rest)))
      ∙ ap (λ (u : Window). after u (length (selected q rest))) (sym is_v)

-- ---- the tokens of rows that are left

-- one more row is written
pub tokens-next : (row : Row → List Token) (rows : List Row) (n : ℕ) (old new whole : List Token) → n < length rows → new ≡ old ++ row (row_in rows n) → old ++ flat_map row (drop n rows) ≡ whole → new ++ flat_map row (drop (n + 1) rows) ≡ whole
tokens-next row rows n old new whole less written h =
    ap (λ t. t ++ flat_map row (drop (n + 1) rows)) written ∙ append_assoc old (row (row_in rows n)) (flat_map row (drop (n + 1) rows))
    ∙ ap (λ (rs : List Row). old ++ flat_map row rs) (sym (next-row rows n less)) ∙ h

-- what stands before it, and then the row
pub row-written : (t0 t1 t2 before row rest whole : List Token) → t1 ≡ t0 ++ before → t2 ≡ t1 ++ row → t0 ++ (before ++ (row ++ rest)) ≡ whole → t2 ++ rest ≡ whole
row-written t0 t1 t2 before row rest whole e1 e2 h =
    ap (λ t. t ++ rest) (e2 ∙ ap (λ t. t ++ row) e1) ∙ again ∙ h
  where
    again : ((t0 ++ before) ++ row) ++ rest ≡ t0 ++ (before ++ (row ++ rest))
    again = simp append_assoc

pub few-counted : (size count i : ℕ) → count ≤ i → count_with size count ≤ i + 1
few-counted size count i few =
    elim (count == 0) as (λ b. cond b 1 (cond (count == size) 1 (count + 1)) ≤ i + 1) [
      | true ↦ omega arith
      | false ↦ elim (count == size) as (λ b. cond b 1 (count + 1) ≤ i + 1) [ true ↦ omega arith | false ↦ omega (arith, few) ]
    ]
