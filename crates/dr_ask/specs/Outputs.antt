-- The names of a query's outputs (Apache Druid documentation, native queries).
use Rattle.std.specs.Prelude.{ℕ, List, [], ◌∷◌, ◌++◌, map, bytes_eq, Result, Ok, Err, if◌then◌else◌}
use Rattle.std.specs.List.{list_any}
use Rattle.dr_base.specs.Reading.{◌>>=◌}
use Rattle.dr_ask.specs.declared.aggregation.Aggregation.{Aggregation}
use Rattle.dr_ask.specs.declared.dimension.Dimension.{Dimension}
use Rattle.dr_ask.specs.declared.query_error.QueryError.{QueryError}
use Rattle.dr_ask.specs.declared.query_error.QueryError.TheVariants.{DuplicateOutput}

-- each in the order of the query
abbrev pub aggregation_names : List Aggregation → List (List ℕ)
aggregation_names aggregations = map (λ a. a.name) aggregations

abbrev pub dimension_names : List Dimension → List (List ℕ)
dimension_names dimensions = map (λ d. d.name) dimensions

-- no name stood before; `seen` are the names before
unfoldable pub distinct_from : List (List ℕ) → List (List ℕ) → Result (Unit {0}) QueryError
distinct_from seen [] = Ok tt
distinct_from seen (name ∷ names) =
    if list_any (bytes_eq name) seen then Err (DuplicateOutput name) else distinct_from (seen ++ name ∷ []) names

-- no name of two lists stood before, in the first of them or in the second
unfoldable pub distinct_outputs : (dimensions aggregations : List (List ℕ)) → Result (Unit {0}) QueryError
distinct_outputs dimensions aggregations = do
  grouped ← distinct_from [] dimensions
  distinct_from dimensions aggregations
