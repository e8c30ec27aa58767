-- The rows of an image among the rows of a segment.
use Rattle.std.proofs.Common.{◌≡◌, ◌∙◌, sym, ap, subst, ℕ, ◌<◌, List, length, get_or, arith}
use Rattle.std.proofs.lemmas.List.FromFn.{length-map-range_with_len, get_or-map-range_with_len}
use Rattle.std.proofs.lemmas.Option.{unwrap_or-slice_get}
use Rattle.dr_base.specs.declared.row.Row.{Row}
use Rattle.dr_image.specs.Table.{Table, row_at, rows_of}
use Rattle.dr_answers.specs.Selection.{selects}
use Rattle.dr_ask.specs.Asked.{Asked}
use Rattle.dr_columns.specs.declared.selection.Selection.{Selection}
use Rattle.dr_columns.specs.Rows.{key_at}
use Rattle.dr_columns.specs.Told.{tells}
use Rattle.dr_scan.specs.Rows.{row_in, no_row}

module _ (t : Table) (rows : List Row) (is : rows_of t ≡ rows) where
  pub counted : length rows ≡ length t.times
  counted = ap length (sym is) ∙ length-map-range_with_len (row_at t) 0 (length t.times)

  pub row-there : (i : ℕ) → i < length t.times → row_in rows i ≡ row_at t i
  row-there i lt =
      unwrap_or-slice_get rows i no_row ∙ ap (λ (rs : List Row). get_or rs i no_row) (sym is)
      ∙ get_or-map-range_with_len (row_at t) 0 (length t.times) i i no_row lt (omega arith)

  -- what is told of the rows of an image is told of these
  pub told-there : (q : Asked) (s : Selection) → ((i : ℕ) → i < length t.times → tells s i ≡ selects q (key_at t i))
      → (i : ℕ) → i < length rows → tells s i ≡ selects q (row_in rows i).key
  told-there q s told i lt =
      let within : i < length t.times = subst (λ n. i < n) counted lt in
      told i within ∙ ap (λ (r : Row). selects q r.key) (sym (row-there i within))
