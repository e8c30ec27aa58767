-- Rows beside each other whose times lie in one bucket. No public contract cites this file.
use Rattle.std.specs.Prelude.{◌≡◌, ℤ, ◌≤ℤ◌, ◌<ℤ◌, true}
use Rattle.dr_base.specs.declared.row.Row.{Row}
use Rattle.dr_time.specs.Union.{union_holds}
use Rattle.dr_ask.specs.Asked.{Asked}
use Rattle.dr_answers.specs.Groups.{bucket}
use Rattle.dr_partial.specs.declared.window.Window.{Window}

-- an interval of the query holds a time, which lies in the bucket that starts there
abbrev pub LiesIn : Asked → ℤ → ℤ → Type 0
LiesIn q start t = (union_holds q.intervals t ≡ true) × (bucket q t ≡ start)

-- each time of a window does
abbrev pub IsWindow : Asked → Window → Type 0
IsWindow q w = (t : ℤ) → w.from ≤ℤ t → t <ℤ w.to → LiesIn q w.bucket t

-- the time of a row is one of a window's
abbrev pub IsWithin : Window → Row → Type 0
IsWithin w r = (w.from ≤ℤ r.key.time) × (r.key.time <ℤ w.to)
