use Rattle.std.proofs.Common.{◌∙◌}
use Rattle.std.proofs.lemmas.Result.{on_ok_weaker}
use Rattle.dr_scan.proofs.EntryTokens.{list-tokens}
use Rattle.dr_scan.proofs.scanning.write_entries.Goals as goal

pub returns : goal.returns
returns c =
    let before = c.end_array.ensures.room.0 ∙ c.in_ok-write_each.ensures.0 ∙ c.begin_array.ensures.room.0 in
    on_ok_weaker c.end_array.result
    (λ e. (before, list-tokens _ _ _ _ _ c.in_ok-begin_array.ensures.ok c.in_ok-write_each.ensures.1 e))
    c.end_array.ensures.ok
