use Rattle.std.proofs.Common.{refl, rules, FitsSigned, w64}
use Rattle.std.proofs.lemmas.Int.{to_z-of_z}
use Rattle.dr_ask.specs.Once.{asked_once}
use Rattle.dr_partial.proofs.Pieces.{no-rows, next}
use Rattle.dr_partial.proofs.at_once.add_lot.Goals as goal

pub loop-i-init : goal.loop-i-init
loop-i-init c = no-rows (asked_once c.args.query.now) c.args.groups.now c.requires.sound

pub loop-i-preserved : goal.loop-i-preserved
loop-i-preserved c =
    let r = c.index-rows-i.result in
    let fits : FitsSigned w64 r.key.time = search rules in
    next (asked_once c.args.query.now) (λ l. l) (λ a b. refl) c.args.groups.now c.loop-i.groups c.add_told.new.groups
    c.args.rows.now c.loop-i.i r c.loop-i-test.true c.index-rows-i.is c.loop-i.invariant (rw (to_z-of_z w64 r.key.time fits, c.as_slice.ensures, c.as_slice-in-loop-i.ensures) at c.in_ok-add_told.ensures)
