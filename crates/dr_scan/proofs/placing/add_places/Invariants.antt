use Rattle.std.proofs.Common.{◌≡◌, ◌++◌, drop}
use Rattle.dr_ask.specs.Asked.{asked}
use Rattle.dr_scan.specs.Chosen.{AreTold}
use Rattle.dr_scan.specs.Places.{places_in}
use Rattle.dr_scan.proofs.placing.add_places.Given as goal

-- with the rows that are left
abbrev pub invariant-loop-row : goal.invariant-loop-row
invariant-loop-row l = record {
  places : l.places.items ++ places_in (asked l.query) l.segment l.row (drop l.row l.rows) ≡ l.initial.places.items ++ places_in (asked l.query) l.segment 0 l.rows;
  told : AreTold l.told (asked l.query) l.rows;
}
