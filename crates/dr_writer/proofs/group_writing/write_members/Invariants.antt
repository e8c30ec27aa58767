use Rattle.std.proofs.Common.{◌≡◌, ◌++◌, drop}
use Rattle.json.specs.Tree.{members_tokens}
use Rattle.serde_json.specs.Written.{members_outline}
use Rattle.dr_writer.specs.Outputs.{members_at}
use Rattle.dr_writer.proofs.group_writing.write_members.Given as goal

-- with the tokens of the outputs that are left
abbrev pub invariant-loop-output : goal.invariant-loop-output
invariant-loop-output l =
    (l.out.before ≡ l.initial.out.before)
    × (l.out.tokens ++ members_tokens (members_outline (members_at l.group (drop l.output-index l.outputs))) ≡ l.initial.out.tokens ++ members_tokens (members_outline (members_at l.group l.outputs)))
