use Rattle.std.proofs.Common.{◌≡◌, ◌++◌, drop}
use Rattle.json.specs.Tree.{members_tokens}
use Rattle.serde_json.specs.Written.{members_outline}
use Rattle.dr_scan.specs.Written.{members_in}
use Rattle.dr_scan.proofs.row_writing.write_object.Given as goal

-- with the tokens of the columns that are left
abbrev pub invariant-loop-column : goal.invariant-loop-column
invariant-loop-column l =
    (l.out.before ≡ l.initial.out.before)
    × (l.out.tokens ++ members_tokens (members_outline (members_in (drop l.column-index l.columns) l.row)) ≡ l.initial.out.tokens ++ members_tokens (members_outline (members_in l.columns l.row)))
