use Rattle.std.proofs.Common.{◌≡◌, ◌++◌, drop}
use Rattle.std.specs.List.{flat_map}
use Rattle.dr_scan.specs.Written.{entry_tokens}
use Rattle.dr_scan.proofs.entries_writing.write_entries.Given as goal

-- with the entries that are left
abbrev pub invariant-loop-entry : goal.invariant-loop-entry
invariant-loop-entry l =
    (l.out.before ≡ l.initial.out.before)
    × (l.out.tokens ++ flat_map (entry_tokens l.scan l.columns) (drop l.entry-index l.entries) ≡ l.initial.out.tokens ++ flat_map (entry_tokens l.scan l.columns) l.entries)
