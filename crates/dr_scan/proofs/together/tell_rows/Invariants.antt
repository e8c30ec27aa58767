use Rattle.std.proofs.Common.{◌≡◌, ◌++◌, List, map, take, drop}
use Rattle.dr_answers.specs.Selection.{selects}
use Rattle.dr_ask.specs.Asked.{asked}
use Rattle.dr_base.specs.declared.row.Row.{Row}
use Rattle.dr_scan.specs.Together.{AreLeft}
use Rattle.dr_scan.proofs.together.tell_rows.Given as goal

-- with the rows that are left
abbrev pub invariant-loop-i : goal.invariant-loop-i
invariant-loop-i l =
    (rest : List Row) → AreLeft (asked l.query) l.passed l.initial.next (l.rows ++ rest)
    → (l.told.items ≡ map (λ (r : Row). selects (asked l.query) r.key) (take l.i l.rows)) × AreLeft (asked l.query) l.passed l.next (drop l.i l.rows ++ rest)
