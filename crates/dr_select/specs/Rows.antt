-- Rows of which a filter is asked all at once.
use Rattle.std.specs.Prelude.{ℕ, Bool, List, Option}
use Rattle.dr_base.specs.declared.key.Key.{Key}
use Rattle.dr_rollup.specs.declared.key_of.KeyOf.{KeyOf}
use Rattle.dr_filter.specs.Condition.{Condition, matches}
use Rattle.dr_predicate.specs.Match.{value_at}

-- the key of a row that is lent
abbrev pub key_seen : KeyOf → Key
key_seen row = record { time = row.time; dims = row.dims.now }

-- whether a row meets a condition
abbrev pub meets : Condition → KeyOf → Bool
meets condition row = matches row.time row.dims.now condition

-- the value of a row at a place among the dimensions
abbrev pub value_of : Option ℕ → KeyOf → List ℕ
value_of place row = value_at place row.dims.now
