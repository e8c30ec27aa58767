-- What a snapshot holds. No public contract cites this file.
use Rattle.std.specs.Prelude.{◌≡◌, List, map}
use Rattle.std.specs.List.{AllByRecursion}
use Rattle.dr_base.specs.declared.event.Event.{Event}
use Rattle.dr_schema.specs.Fits.{FitsSchema}
use Rattle.dr_schema.specs.WellFormed.{IsWellFormed}
use Rattle.dr_schema.specs.declared.schema.Schema.{Schema}
use Rattle.dr_base.specs.declared.row.Row.{Row}
use Rattle.dr_cuts.specs.declared.range_info.RangeInfo.{RangeInfo}
use Rattle.dr_rollup.specs.Unrolled.{rolled_up}
use Rattle.dr_cuts.specs.Segments.{infos, events_in}
use Rattle.dr_cuts.specs.State.{Cut, AreCuts}

-- the ranges are those of some cuts of the events, and the rows that are held of each are the rollup of its events
pub record Shows (schema : Schema) (es : List Event) (held : List (List Row)) (ranges : List RangeInfo) : Type 0 where
  pub formed : IsWellFormed schema
  pub fit : AllByRecursion (FitsSchema schema) es
  pub cuts : List Cut
  pub are_cuts : AreCuts schema es cuts
  pub ranges_are : ranges ≡ infos schema es cuts
  pub rows : held ≡ map (λ range. rolled_up schema (events_in schema es range)) ranges
