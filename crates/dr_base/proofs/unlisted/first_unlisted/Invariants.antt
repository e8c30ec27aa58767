use Rattle.std.proofs.Common.{◌≡◌, map}
use Rattle.serde_json.specs.View.{members_view}
use Rattle.dr_base.specs.Unlisted.{unlisted}
use Rattle.dr_base.proofs.unlisted.first_unlisted.Given as goal

-- what is left to look at gives what the whole gives
abbrev pub invariant-loop-key : goal.invariant-loop-key
invariant-loop-key l =
    unlisted (map (λ t. t.now) l.listed) (members_view l.key-iterator) ≡ unlisted (map (λ t. t.now) l.listed) (members_view l.members.entries)
