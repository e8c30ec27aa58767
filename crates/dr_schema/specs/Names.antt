-- The columns of a schema by their names.
use Rattle.std.specs.Prelude.{ℕ, Bool, ◌||◌, List, Option, bytes_eq, codes}
use Rattle.std.specs.List.{list_any, position}
use Rattle.dr_schema.specs.declared.schema.Schema.{Schema}

-- `__time`, or the name of a metric
abbrev pub is_no_dimension : Schema → List ℕ → Bool
is_no_dimension schema name = bytes_eq name (codes "__time") || list_any (λ m. bytes_eq name m.name) schema.metrics

-- the place of the dimension of that name, from 0; none where there is no such column
abbrev pub dimension_place : Schema → List ℕ → Option ℕ
dimension_place schema name = position (bytes_eq name) schema.dimensions
