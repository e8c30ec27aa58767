use Rattle.std.proofs.Common.{◌≡◌, ◌++◌, drop}
use Rattle.std.specs.List.{flat_map}
use Rattle.dr_scan.specs.Written.{row_tokens}
use Rattle.dr_scan.proofs.entries_writing.write_rows.Given as goal

-- with the rows that are left
abbrev pub invariant-loop-row : goal.invariant-loop-row
invariant-loop-row l =
    (l.out.before ≡ l.initial.out.before)
    × (l.out.tokens ++ flat_map (row_tokens l.format l.columns) (drop l.row-index l.rows) ≡ l.initial.out.tokens ++ flat_map (row_tokens l.format l.columns) l.rows)
