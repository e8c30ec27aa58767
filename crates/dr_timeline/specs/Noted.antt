-- What became of the inputs of a timeline (Apache Druid documentation, ingestion: row statistics).
use Rattle.std.specs.Prelude.{ℕ, ◌+◌, min, length}
use Rattle.dr_timeline.specs.declared.outcome.Outcome.{Outcome}
use Rattle.dr_timeline.specs.declared.outcome.Outcome.TheVariants.{Unparseable, ThrownAway}
use Rattle.dr_timeline.specs.declared.stats.Stats.{Stats}
use Rattle.dr_cuts.specs.State.{State}

-- a counter of 64 bits with one more; it stays at the greatest number
abbrev pub one_more : ℕ → ℕ
one_more n = min (n + 1) 18446744073709551615

-- an input that became no event is counted
abbrev pub noted : Outcome → State → State
noted Unparseable s = record s { unparseable = one_more s.unparseable }
noted ThrownAway s = record s { thrown_away = one_more s.thrown_away }

-- the accepted events are those of the stream
abbrev pub stats : State → Stats
stats s = record { processed = length s.stream; unparseable = s.unparseable; thrown_away = s.thrown_away }
