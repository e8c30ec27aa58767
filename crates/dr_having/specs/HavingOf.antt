-- The condition that a JSON value spells over the outputs of a query, or its first refusal (Apache Druid documentation, groupBy
-- queries: having).
use Rattle.std.specs.Prelude.{ℕ, zero, suc, List, [], ◌∷◌, Option, Some, None, Result, Ok, Err, if◌then◌else◌, bytes_eq, codes}
use Rattle.serde_json.specs.Data.{Data, Members}
use Rattle.dr_base.specs.Each.{each}
use Rattle.dr_base.specs.Fields.{field, required, as_object, text_field, list_field}
use Rattle.dr_base.specs.Reading.{◌>>=◌, passed}
use Rattle.dr_having.specs.declared.comparison.Comparison.{Comparison}
use Rattle.dr_having.specs.declared.having_error.HavingError.{HavingError}
use Rattle.dr_having.specs.declared.having_error.HavingError.TheVariants.{Base, TooDeep, Unsupported}
use Rattle.dr_having.specs.Condition.{Condition, aggregation, dimension, every, some, opposite, conditions_of}
use Rattle.dr_having.specs.LeafOf.{comparison_of, aggregation_of, dimension_of, no_unlisted}

-- how a condition is read that stands in a field of that name
abbrev pub Inner : Type 0
Inner = List ℕ → Data → Result Condition HavingError

-- ---- conditions on one output

abbrev pub on_dimension : List (List ℕ) → Data → Members → Result Condition HavingError
on_dimension dimensions d ms = do
  c ← dimension_of dimensions d ms
  Ok (dimension c)

abbrev pub other_by : List ℕ → List (List ℕ) → Data → Members → Result Condition HavingError
other_by type dimensions d ms = if bytes_eq type (codes "dimSelector") then on_dimension dimensions d ms else Err (Unsupported type)

abbrev pub on_aggregation : Comparison → List (List ℕ) → Data → Members → Result Condition HavingError
on_aggregation comparison aggregations d ms = do
  c ← aggregation_of comparison aggregations d ms
  Ok (aggregation c)

abbrev pub simple_in : Option Comparison → List ℕ → (dimensions aggregations : List (List ℕ)) → Data → Members → Result Condition HavingError
simple_in None type dimensions aggregations d ms = other_by type dimensions d ms
simple_in (Some comparison) type dimensions aggregations d ms = on_aggregation comparison aggregations d ms

abbrev pub simple_by : List ℕ → (dimensions aggregations : List (List ℕ)) → Data → Members → Result Condition HavingError
simple_by type dimensions aggregations d ms = simple_in (comparison_of type) type dimensions aggregations d ms

-- ---- conditions of conditions

-- `havingSpecs`
unfoldable pub specs_of : Inner → Data → Members → Result (List Condition) HavingError
specs_of inner d ms = do
  items ← passed Base (list_field (codes "havingSpecs") d)
  conditions ← each (inner (codes "havingSpecs")) items
  unlisted ← no_unlisted (codes "type" ∷ codes "havingSpecs" ∷ []) ms
  Ok conditions

-- `havingSpec`
unfoldable pub spec_of : Inner → Data → Members → Result Condition HavingError
spec_of inner d ms = do
  found ← passed Base (required (codes "havingSpec") (field (codes "havingSpec") d))
  condition ← inner (codes "havingSpec") found
  unlisted ← no_unlisted (codes "type" ∷ codes "havingSpec" ∷ []) ms
  Ok condition

abbrev pub and_of : Inner → Data → Members → Result Condition HavingError
and_of inner d ms = do
  conditions ← specs_of inner d ms
  Ok (every (conditions_of conditions))

abbrev pub or_of : Inner → Data → Members → Result Condition HavingError
or_of inner d ms = do
  conditions ← specs_of inner d ms
  Ok (some (conditions_of conditions))

abbrev pub not_of : Inner → Data → Members → Result Condition HavingError
not_of inner d ms = do
  condition ← spec_of inner d ms
  Ok (opposite condition)

abbrev pub by_type : List ℕ → Inner → (dimensions aggregations : List (List ℕ)) → Data → Members → Result Condition HavingError
by_type type inner dimensions aggregations d ms =
    if bytes_eq type (codes "and") then and_of inner d ms
    else (if bytes_eq type (codes "or") then or_of inner d ms
    else (if bytes_eq type (codes "not") then not_of inner d ms
    else simple_by type dimensions aggregations d ms))

-- a condition, where it is known how those inside are read
unfoldable pub level_of : Inner → (dimensions aggregations : List (List ℕ)) → List ℕ → Data → Result Condition HavingError
level_of inner dimensions aggregations name d = do
  members ← passed Base (as_object name d)
  type ← passed Base (text_field (codes "type") d)
  by_type type inner dimensions aggregations d members

-- a condition at a level that is too deep, whatever it is
abbrev pub too_deep_of : List ℕ → Data → Result Condition HavingError
too_deep_of name d = do
  members ← passed Base (as_object name d)
  Err TooDeep

-- a condition in which so many levels may nest, itself among them
unfoldable pub having_at : ℕ → (dimensions aggregations : List (List ℕ)) → Inner
having_at zero dimensions aggregations name d = too_deep_of name d
having_at (suc inside) dimensions aggregations name d = level_of (having_at inside dimensions aggregations) dimensions aggregations name d

-- up to 64 levels
unfoldable pub having_of : (dimensions aggregations : List (List ℕ)) → Data → Result Condition HavingError
having_of dimensions aggregations d = having_at 64 dimensions aggregations (codes "having") d
