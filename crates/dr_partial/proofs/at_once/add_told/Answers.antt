use Rattle.std.proofs.Common.{◌∙◌, sym, rules, FitsSigned, w64}
use Rattle.std.proofs.lemmas.Int.{to_z-of_z}
use Rattle.dr_ask.specs.Once.{asked_once}
use Rattle.dr_partial.proofs.Pieces.{passed-over, added}
use Rattle.dr_partial.proofs.at_once.add_told.Goals as goal

pub returns-then-not-is_told : goal.returns-then-not-is_told
returns-then-not-is_told c =
    let fits : FitsSigned w64 c.args.key.now.time = search rules in
    let tested = rw (to_z-of_z w64 c.args.key.now.time fits) at c.is_told.ensures in
    passed-over (asked_once c.args.query.now) c.args.groups.now (record { key = record { time = c.args.key.now.time; dims = c.args.key.now.dims.now }; metrics = c.args.metrics.now }) (sym tested ∙ search rules) c.requires.sound

pub returns : goal.returns
returns c =
    let fits : FitsSigned w64 c.args.key.now.time = search rules in
    let tested = rw (to_z-of_z w64 c.args.key.now.time fits) at c.is_told.ensures in
    let adds = rw (to_z-of_z w64 c.args.key.now.time fits) at c.add_selected.ensures in
    added (asked_once c.args.query.now) c.args.groups.now c.add_selected.new.groups (record { key = record { time = c.args.key.now.time; dims = c.args.key.now.dims.now }; metrics = c.args.metrics.now }) (sym tested ∙ search rules) c.add_selected.result adds
