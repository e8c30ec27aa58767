-- The identifier of a segment (Apache Druid documentation, segments: `dataSource_interval_version_partitionNumber`; how a version
-- is written is this project's own).
use Rattle.std.specs.Prelude.{ℕ, ℤ, ◌==◌, List, [], ◌++◌, codes, decimal, if◌then◌else◌}
use Rattle.dr_gran.specs.Truncation.{next}
use Rattle.dr_schema.specs.declared.schema.Schema.{Schema}
use Rattle.dr_time.specs.Printed.{instant_text}

-- `_` in front
abbrev pub behind : List ℕ → List ℕ
behind part = codes "_" ++ part

-- `v` and the number of a publication; `r` where the range isn't published
abbrev pub version_text : ℕ → List ℕ
version_text version = if version == 0 then codes "r" else codes "v" ++ decimal version

-- the place in the chunk; nothing for the first one
abbrev pub place_text : ℕ → List ℕ
place_text place = if place == 0 then [] else behind (decimal place)

-- `dataSource_start_end_version` with the place: the start and the end are those of the chunk
abbrev pub identifier_of : Schema → ℤ → ℕ → ℕ → List ℕ
identifier_of schema chunk version place =
    (((schema.data_source ++ behind (instant_text chunk)) ++ behind (instant_text (next schema.segment_granularity chunk))) ++ behind (version_text version))
    ++ place_text place
