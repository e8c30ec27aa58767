use Rattle.std.proofs.Common.{◌∙◌}
use Rattle.std.proofs.lemmas.Result.{on_ok_weaker}
use Rattle.dr_writer.proofs.TokensLaws.{event-tokens}
use Rattle.dr_writer.proofs.group_writing.write_event.Goals as goal

pub returns : goal.returns
returns c =
    let before = c.end_object.ensures.room.0 ∙ c.in_ok-write_version.ensures.0 ∙ c.in_ok-write_stamp.ensures.0 ∙ c.in_ok-write_members.ensures.0 ∙ c.key.ensures.room.0 ∙ c.begin_object.ensures.room.0 in
    on_ok_weaker c.end_object.result
    (λ e. (before, event-tokens _ _ _ _ _ _ _ _ _ _ _ c.in_ok-begin_object.ensures.ok c.in_ok-key.ensures.ok c.in_ok-write_members.ensures.1 c.in_ok-write_stamp.ensures.1 c.in_ok-write_version.ensures.1 e))
    c.end_object.ensures.ok
