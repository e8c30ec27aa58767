use Rattle.std.proofs.Common.{◌≡◌, map}
use Rattle.std.specs.List.{All}
use Rattle.dr_select.specs.declared.placed_letters.PlacedLetters.{PlacedLetters}
use Rattle.dr_select.specs.Rows.{value_of}
use Rattle.dr_select.proofs.lot.letters_of.Given as goal

abbrev pub invariant-loop-place : goal.invariant-loop-place
invariant-loop-place l = All (λ (o : PlacedLetters). o.letters.0 ≡ map (value_of o.place) l.rows) l.found.items
