use Rattle.std.proofs.Common.{◌≡◌, ◌∙◌, sym, rules, FitsSigned, w64}
use Rattle.std.proofs.lemmas.Int.{to_z-of_z}
use Rattle.dr_gran.specs.Truncation.{truncation}
use Rattle.dr_rollup.specs.Unrolled.{unrolled}
use Rattle.dr_ask.specs.Once.{asked_once}
use Rattle.dr_partial.proofs.Pieces.{passed-over}
use Rattle.dr_partial.proofs.events.add_event.Goals as goal
use Rattle.dr_partial.proofs.events.add_event.Goals.{After-truncate-time}

truncated : (c : After-truncate-time) → c.truncate-time.result ≡ truncation c.args.schema.now.query_granularity c.args.event.now.time
truncated c =
    let fits : FitsSigned w64 c.args.event.now.time = search rules in
    rw (to_z-of_z w64 c.args.event.now.time fits, c.query_granularity.ensures.value) at c.truncate-time.ensures.value

pub returns-then-not-is_selected : goal.returns-then-not-is_selected
returns-then-not-is_selected c =
    let fits : FitsSigned w64 c.truncate-time.result = search rules in
    let time = truncated (goal.at.returns-then-not-is_selected c).After-truncate-time in
    let tested = rw (to_z-of_z w64 c.truncate-time.result fits, time, c.as_slice-dims.ensures) at c.is_selected.ensures in
    passed-over (asked_once c.args.query.now) c.args.groups.now (unrolled c.args.schema.now c.args.event.now) (sym tested ∙ search rules) c.requires.sound
