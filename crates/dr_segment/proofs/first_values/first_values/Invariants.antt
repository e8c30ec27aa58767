use Rattle.std.proofs.Common.{◌≡◌, ◌≤◌, map, take, length}
use Rattle.dr_dict.specs.TextPlaces.{AreFound}
use Rattle.dr_image.specs.Image.{values_of}
use Rattle.dr_segment.specs.Columns.{AreFirsts}
use Rattle.dr_segment.proofs.first_values.first_values.Given as goal

-- of the rows so far the values, and no more of these than rows
abbrev pub invariant-loop-row : goal.invariant-loop-row
invariant-loop-row l = record {
  values : AreFirsts (map (λ t. t.now) l.texts.items) l.places.items (values_of l.d (take l.row-index l.rows));
  few : length l.texts.items ≤ l.row-index;
  long : length l.places.items ≡ l.row-index;
  found : AreFound l.found (map (λ t. t.now) l.texts.items);
}
