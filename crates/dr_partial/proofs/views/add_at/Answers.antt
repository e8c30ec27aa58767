use Rattle.std.proofs.Common.{◌∙◌, sym}
use Rattle.dr_ask.specs.Once.{asked_once}
use Rattle.dr_image.specs.Table.{row_at}
use Rattle.dr_partial.proofs.Pieces.{passed-over, added-alone}
use Rattle.dr_partial.proofs.views.add_at.Goals as goal

pub returns-then-not-holds-clause-adds : goal.returns-then-not-holds-clause-adds
returns-then-not-holds-clause-adds c =
    let s = c.args.source.now in
    passed-over (asked_once s.query.now) c.args.groups.now (row_at s.view.now c.args.i) (sym (s.selected c.args.i c.requires.within) ∙ sym c.holds.ensures ∙ c.if-not-holds.true) c.requires.sound

pub returns-clause-adds : goal.returns-clause-adds
returns-clause-adds c =
    let s = c.args.source.now in
    added-alone (asked_once s.query.now) c.args.groups.now c.add_selected_at.new.groups (row_at s.view.now c.args.i)
    (sym (s.selected c.args.i c.requires.within) ∙ sym c.holds.ensures ∙ c.if-not-holds.false) c.add_selected_at.result c.add_selected_at.ensures.adds
