-- What holds of the cuts of a timeline's chunks.
use Rattle.std.proofs.Common.{subst, ◌<◌, List, [], ◌∷◌, length, map}
use Rattle.std.specs.List.{AllByRecursion}
use Rattle.dr_base.specs.declared.event.Event.{Event}
use Rattle.dr_schema.specs.declared.schema.Schema.{Schema}
use Rattle.dr_rollup.specs.OpenRows.{OpenRows}
use Rattle.dr_chunks.specs.declared.chunk.Chunk.{Chunk}
use Rattle.dr_chunks.specs.Held.{cut_of, Holds, HasFewRows}
use Rattle.dr_timeline.specs.Order.{HaveFewRows}

pub few-cuts : (schema : Schema) (es : List Event) (cs : List Chunk) → AllByRecursion (Holds schema es) cs → AllByRecursion (HasFewRows schema) cs → HaveFewRows schema es (map cut_of cs)
few-cuts schema es [] h few = tt
few-cuts schema es (c ∷ cs) h few =
    (subst (λ (rows : OpenRows). length rows.rows < schema.limits.max_rows_in_memory) h.0.open_range few.0, few-cuts schema es cs h.1 few.1)
