-- What holds of each timeline and of each snapshot, whatever the steps were.
use Rattle.std.specs.Prelude.{◌≡◌, ◌<◌, List, length}
use Rattle.std.specs.List.{AllByRecursion}
use Rattle.dr_base.specs.declared.event.Event.{Event}
use Rattle.dr_schema.specs.declared.schema.Schema.{Schema}
use Rattle.dr_rollup.specs.Unrolled.{rolled_up}
use Rattle.dr_cuts.specs.Chunks.{chunk_list}
use Rattle.dr_cuts.specs.declared.range_info.RangeInfo.{RangeInfo}
use Rattle.dr_cuts.specs.Segments.{infos}
use Rattle.dr_cuts.specs.State.{Cut, AreCuts, open_events}

-- the open range of each chunk has fewer rows than are held in memory
abbrev pub HaveFewRows : Schema → List Event → List Cut → Type 0
HaveFewRows schema es cuts =
    AllByRecursion (λ c. length (rolled_up schema (open_events (chunk_list schema es c.chunk) c.sealed)) < schema.limits.max_rows_in_memory) cuts

-- the ranges are those that some cuts of the events give
abbrev pub AreRangesOf : Schema → List Event → List RangeInfo → Type 0
AreRangesOf schema es ranges = (cuts : List Cut) × AreCuts schema es cuts × (ranges ≡ infos schema es cuts)
