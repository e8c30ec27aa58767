-- Rows of the same keys in two orders. No public contract cites this file.
use Rattle.std.specs.Prelude.{◌≡◌, List}
use Rattle.dr_base.specs.declared.key.Key.{Key}
use Rattle.dr_base.specs.declared.row.Row.{Row}
use Rattle.dr_agg.specs.Rollup.{rows_at}

-- each key has the same rows in both, in the same order
abbrev pub AreAlike : List Row → List Row → Type 0
AreAlike rows others = (q : Key) → rows_at q rows ≡ rows_at q others
