-- Of which rows it is told that a query selects them. No public contract cites this file.
use Rattle.std.specs.Prelude.{◌≡◌, ◌<◌, ℕ, List, [], ◌∷◌, length, Option, Some, None}
use Rattle.dr_base.specs.declared.row.Row.{Row}
use Rattle.dr_answers.specs.Selection.{selects}
use Rattle.dr_ask.specs.Asked.{Asked}
use Rattle.dr_columns.specs.declared.selection.Selection.{Selection}
use Rattle.dr_columns.specs.Told.{tells}
use Rattle.dr_scan.specs.Rows.{row_in}

-- what is told of a row, where something is
abbrev pub IsTold : Option Selection → Asked → List Row → ℕ → Type 0
IsTold None q rows i = Unit {0}
IsTold (Some selection) q rows i = tells selection i ≡ selects q (row_in rows i).key

-- of each row
abbrev pub AreTold : Option Selection → Asked → List Row → Type 0
AreTold told q rows = (i : ℕ) → i < length rows → IsTold told q rows i

-- and of those of each of some segments
abbrev pub AreEachTold : Asked → List (Option Selection) → List (List Row) → Type 0
AreEachTold q [] [] = Unit {0}
AreEachTold q [] (g ∷ gs) = ⊥
AreEachTold q (t ∷ ts) [] = ⊥
AreEachTold q (t ∷ ts) (g ∷ gs) = AreTold t q g × AreEachTold q ts gs
