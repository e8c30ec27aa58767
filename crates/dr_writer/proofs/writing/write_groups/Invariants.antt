use Rattle.std.proofs.Common.{◌≡◌, ◌++◌, drop}
use Rattle.json.specs.Tree.{items_tokens}
use Rattle.serde_json.specs.View.{items_of}
use Rattle.serde_json.specs.Written.{items_outline}
use Rattle.dr_ask.specs.Asked.{asked_shape}
use Rattle.dr_writer.specs.Written.{groups_data}
use Rattle.dr_writer.proofs.writing.write_groups.Given as goal

-- with the tokens of the groups that are left
abbrev pub invariant-loop-group : goal.invariant-loop-group
invariant-loop-group l =
    (l.out.before ≡ l.initial.out.before)
    × (l.out.tokens ++ items_tokens (items_outline (items_of (groups_data (asked_shape l.shape) l.outputs (drop l.group-index l.groups))))
    ≡ l.initial.out.tokens ++ items_tokens (items_outline (items_of (groups_data (asked_shape l.shape) l.outputs l.groups))))
