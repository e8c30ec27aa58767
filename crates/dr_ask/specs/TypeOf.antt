-- The types of queries (Apache Druid documentation, native queries).
use Rattle.std.specs.Prelude.{ℕ, List, Result, Ok, Err, if◌then◌else◌, bytes_eq, codes}
use Rattle.dr_ask.specs.declared.query_type.QueryType.{QueryType}
use Rattle.dr_ask.specs.declared.query_type.QueryType.TheVariants.{Timeseries, GroupBy, Scan}
use Rattle.dr_ask.specs.declared.query_error.QueryError.{QueryError}
use Rattle.dr_ask.specs.declared.query_error.QueryError.TheVariants.{UnknownQueryType}

abbrev pub type_named : List ℕ → Result QueryType QueryError
type_named name =
    if bytes_eq name (codes "timeseries") then Ok Timeseries
    else (if bytes_eq name (codes "groupBy") then Ok GroupBy
    else (if bytes_eq name (codes "scan") then Ok Scan else Err (UnknownQueryType name)))
