use Rattle.std.proofs.Common.{◌≡◌, drop}
use Rattle.serde_json.specs.View.{items_view}
use Rattle.dr_base.specs.Each.{each, each_from}
use Rattle.dr_spec.specs.DimensionsSpec.{dimension_of}
use Rattle.dr_spec.proofs.dimensions_spec.names.Given as goal

abbrev pub invariant-loop-item : goal.invariant-loop-item
invariant-loop-item l = each_from dimension_of l.names (items_view (drop l.item-index l.items)) ≡ each dimension_of (items_view l.items)
