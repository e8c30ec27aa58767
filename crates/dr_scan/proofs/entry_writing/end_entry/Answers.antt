use Rattle.std.proofs.Common.{◌∙◌}
use Rattle.std.proofs.lemmas.Result.{on_ok_weaker}
use Rattle.dr_scan.proofs.Pieces.{back-tokens}
use Rattle.dr_scan.proofs.entry_writing.end_entry.Goals as goal

pub returns : goal.returns
returns c =
    let before = c.end_object.ensures.room.0 ∙ c.in_ok-write_identifier.ensures.0 ∙ c.key.ensures.room.0 ∙ c.end_array.ensures.room.0 in
    on_ok_weaker c.end_object.result
    (λ e. (before, back-tokens _ _ _ _ _ _ _ c.in_ok-end_array.ensures.ok c.in_ok-key.ensures.ok c.in_ok-write_identifier.ensures.1 e))
    c.end_object.ensures.ok
