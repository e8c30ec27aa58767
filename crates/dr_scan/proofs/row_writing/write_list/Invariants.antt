use Rattle.std.proofs.Common.{◌≡◌, ◌++◌, drop, map}
use Rattle.json.specs.Tree.{items_tokens}
use Rattle.serde_json.specs.View.{items_of}
use Rattle.serde_json.specs.Written.{items_outline}
use Rattle.dr_scan.specs.ScanText.{data_in}
use Rattle.dr_scan.proofs.row_writing.write_list.Given as goal

-- with the tokens of the columns that are left
abbrev pub invariant-loop-column : goal.invariant-loop-column
invariant-loop-column l =
    (l.out.before ≡ l.initial.out.before)
    × (l.out.tokens ++ items_tokens (items_outline (items_of (map (λ c. data_in c.source l.row) (drop l.column-index l.columns)))) ≡ l.initial.out.tokens ++ items_tokens (items_outline (items_of (map (λ c. data_in c.source l.row) l.columns))))
