-- Which of the rows that are still to come a scan gives, row by row. No public contract cites this file.
use Rattle.std.specs.Prelude.{ℕ, ◌-◌, nat_lt, Bool, true, false, List, drop, Option, Some, None, if◌then◌else◌}
use Rattle.dr_base.specs.declared.row.Row.{Row}
use Rattle.dr_answers.specs.Given.{limited}
use Rattle.dr_scan.specs.declared.window.Window.{Window}
use Rattle.dr_scan.specs.Entries.{less}

-- of some rows those that are given
abbrev pub given : Window → List Row → List Row
given w rows = limited w.left (drop w.skip rows)

-- behind so many rows
abbrev pub after : Window → ℕ → Window
after w n = record { skip = w.skip - n; left = less w.left (n - w.skip) }

-- whether one may still be given
abbrev pub has_left : Option ℕ → Bool
has_left None = true
has_left (Some left) = nat_lt 0 left

-- whether the next row is given
abbrev pub takes : Window → Bool
takes w = if nat_lt 0 w.skip then false else has_left w.left

-- behind it
abbrev pub moved : Window → Window
moved w = if nat_lt 0 w.skip then record { skip = w.skip - 1; left = w.left } else record { skip = w.skip; left = less w.left 1 }
