use Rattle.std.proofs.Common.{◌≡◌, ◌++◌, drop, map}
use Rattle.std.specs.List.{flat_map}
use Rattle.dr_scan.specs.Places.{row_of}
use Rattle.dr_scan.specs.Written.{row_tokens}
use Rattle.dr_scan.proofs.ordered_writing.write_rows.Given as goal

-- with the rows that are left
abbrev pub invariant-loop-place : goal.invariant-loop-place
invariant-loop-place l =
    (l.out.before ≡ l.initial.out.before)
    × (l.out.tokens ++ flat_map (row_tokens l.format l.columns) (map (row_of l.segments) (drop l.place-index l.places)) ≡ l.initial.out.tokens ++ flat_map (row_tokens l.format l.columns) (map (row_of l.segments) l.places))
