-- Which rows of an image are selected.
use Rattle.std.specs.Prelude.{ℕ, Bool, true, false, get_or}
use Rattle.dr_columns.specs.declared.selection.Selection.{Selection}
use Rattle.dr_columns.specs.declared.selection.Selection.TheVariants.{Every, Told}

abbrev pub tells : Selection → ℕ → Bool
tells Every i = true
tells (Told told) i = get_or told.items i false
