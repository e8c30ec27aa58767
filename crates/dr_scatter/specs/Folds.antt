-- Groups over rows of their own each. No public contract cites this file.
use Rattle.std.specs.Prelude.{◌≡◌, List, [], ◌∷◌, Result, IfOk}
use Rattle.dr_base.specs.declared.row.Row.{Row}
use Rattle.dr_agg.specs.Rollup.{all_rows}
use Rattle.dr_ask.specs.declared.query.Query.{Query}
use Rattle.dr_workers.specs.Shared.{IsFoldOf}

-- groups, each of the query over rows of its own
abbrev pub AreFoldsOf : Query → List (List Row) → List (List Row) → Type 0
AreFoldsOf q [] [] = Unit {0}
AreFoldsOf q (rows ∷ more) [] = ⊥
AreFoldsOf q [] (groups ∷ others) = ⊥
AreFoldsOf q (rows ∷ more) (groups ∷ others) = IsFoldOf q rows groups × AreFoldsOf q more others

-- what was found of each of some rows, where memory sufficed
abbrev pub AreFoldsWhereOk : {E : Type 0} → Query → List (List Row) → List (Result (List Row) E) → Type 0
AreFoldsWhereOk q [] [] = Unit {0}
AreFoldsWhereOk q (rows ∷ more) [] = ⊥
AreFoldsWhereOk q [] (r ∷ results) = ⊥
AreFoldsWhereOk q (rows ∷ more) (r ∷ results) = IfOk r (IsFoldOf q rows) × AreFoldsWhereOk q more results

-- some groups are so of rows of their own
abbrev pub AreFolds : Query → List (List Row) → Type 0
AreFolds q parts = (rows : List (List Row)) × AreFoldsOf q rows parts

-- groups over all rows that some groups are over
abbrev pub IsFoldOfAll : Query → List (List Row) → List Row → Type 0
IsFoldOfAll q parts groups = (rows : List (List Row)) → AreFoldsOf q rows parts → IsFoldOf q (all_rows rows) groups

-- groups over rows that are, one after another, these
abbrev pub AreFoldsOver : Query → List Row → List (List Row) → Type 0
AreFoldsOver q rows parts = (lists : List (List Row)) × (all_rows lists ≡ rows) × AreFoldsOf q lists parts

abbrev pub AreFoldsOverWhereOk : {E : Type 0} → Query → List Row → List (Result (List Row) E) → Type 0
AreFoldsOverWhereOk q rows results = (lists : List (List Row)) × (all_rows lists ≡ rows) × AreFoldsWhereOk q lists results
