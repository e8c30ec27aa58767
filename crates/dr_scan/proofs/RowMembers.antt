-- Columns put in by their names are the members of a row in the order of the names.
use Rattle.std.proofs.Common.{◌≡◌, ◌∙◌, refl, ap, ℕ, List, [], ◌∷◌, map, nat_cmp, Ordering, Less, Equal, Greater}
use Rattle.std.specs.Ordering.{match_ordering}
use Rattle.std.specs.Cmp.Lexicographic.{slice_cmp}
use Rattle.std.specs.BTreeMap.{insert_entry}
use Rattle.serde_json.specs.Data.{Data, Members, member, object, put}
use Rattle.dr_base.specs.declared.row.Row.{Row}
use Rattle.dr_ask.specs.declared.column_source.ColumnSource.{ColumnSource}
use Rattle.dr_ask.specs.declared.result_format.ResultFormat.TheVariants as format
use Rattle.dr_ask.specs.declared.scan_column.ScanColumn.{ScanColumn}
use Rattle.dr_scan.specs.ScanText.{data_in, with_columns, row_data}
use Rattle.dr_scan.specs.Written.{with_sources, column_of, members_in, written_row}

abbrev Entry : Type 0
Entry = List ℕ × ColumnSource

abbrev order : List ℕ → List ℕ → Ordering
order = slice_cmp nat_cmp

module _ (r : Row) where
  abbrev members_by : List Entry → Members
  members_by es = members_in (map column_of es) r

  members-insert : (n : List ℕ) (s : ColumnSource) (es : List Entry) → members_by (insert_entry order es n s) ≡ put n (data_in s r) (members_by es)
  members-insert n s [] = refl
  members-insert n s (e ∷ es) =
      let d : Data = data_in s r in
      elim (order n e.0) as (λ o. members_by (match_ordering o ((n, s) ∷ e ∷ es) ((e.0, s) ∷ es) (e ∷ insert_entry order es n s))
      ≡ match_ordering o (member n d (members_by (e ∷ es))) (member e.0 d (members_by es)) (member e.0 (data_in e.1 r) (put n d (members_by es))))
      [ Less ↦ refl | Equal ↦ refl | Greater ↦ ap (member e.0 (data_in e.1 r)) (members-insert n s es) ]

  members-with_sources : (es : List Entry) (cs : List ScanColumn) → members_by (with_sources es cs) ≡ with_columns (members_by es) cs r
  members-with_sources es [] = refl
  members-with_sources es (c ∷ cs) = members-with_sources (insert_entry order es c.name c.source) cs ∙ ap (λ ms. with_columns ms cs r) (members-insert c.name c.source es)

  -- the members by name are those of the definition
  pub row-by_name : (cs written : List ScanColumn) → written ≡ map column_of (with_sources [] cs) → written_row format.List written r ≡ row_data format.List cs r
  row-by_name cs written is = ap (λ ws. object (members_in ws r)) is ∙ ap object (members-with_sources [] cs)
