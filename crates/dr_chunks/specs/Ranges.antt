-- The ranges of a chunk with their rows.
use Rattle.std.specs.Prelude.{ℤ, List}
use Rattle.dr_base.specs.declared.event.Event.{Event}
use Rattle.dr_schema.specs.declared.schema.Schema.{Schema}
use Rattle.dr_fragment.specs.declared.fragment.Fragment.{Fragment}
use Rattle.dr_rollup.specs.Unrolled.{rolled_up}
use Rattle.dr_cuts.specs.Chunks.{chunk_list}
use Rattle.dr_cuts.specs.State.{Range, events_of}

-- a range of a chunk with its rows
abbrev pub fragment_of : Schema → List Event → ℤ → Range → Fragment
fragment_of schema es k range = record { chunk = k; from = range.from; to = range.to; rows = rolled_up schema (events_of (chunk_list schema es k) range) }
