-- Which columns a data source may have (Apache Druid documentation, schema model; how many is this project's own).
use Rattle.std.specs.Prelude.{ℕ, List, [], ◌∷◌, ◌++◌, length, nat_lt, ◌||◌, Bool, bytes_eq, codes, Result, Ok, Err, if◌then◌else◌}
use Rattle.std.specs.List.{list_any}
use Rattle.dr_spec.specs.declared.spec_error.SpecError.{SpecError}
use Rattle.dr_spec.specs.declared.spec_error.SpecError.TheVariants.{DuplicateName, TooManyColumns}
use Rattle.dr_schema.specs.declared.metric.Metric.{Metric}

-- the name stood before, or is that of the time
abbrev pub is_taken : List ℕ → List (List ℕ) → Bool
is_taken name before = bytes_eq name (codes "__time") || list_any (bytes_eq name) before

-- no name is taken where it stands, after those before; the first that is refuses all
unfoldable pub distinct_after : List (List ℕ) → List (List ℕ) → Result (Unit {0}) SpecError
distinct_after before [] = Ok tt
distinct_after before (name ∷ names) = if is_taken name before then Err (DuplicateName name) else distinct_after (before ++ name ∷ []) names

abbrev pub distinct_names : List (List ℕ) → Result (Unit {0}) SpecError
distinct_names names = distinct_after [] names

-- at most 64 dimensions, and at most 64 metrics
abbrev pub few_columns : List (List ℕ) → List Metric → Result (Unit {0}) SpecError
few_columns dimensions metrics = if nat_lt 64 (length dimensions) || nat_lt 64 (length metrics) then Err TooManyColumns else Ok tt
