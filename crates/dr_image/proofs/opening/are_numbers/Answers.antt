use Rattle.std.proofs.Common.{◌∙◌, sym, ap, arith}
use Rattle.dr_image.specs.Layout.{parts_in}
use Rattle.dr_image.specs.Parts.{no_part}
use Rattle.dr_image.specs.Opening.{numbers_fit}
use Rattle.dr_image.proofs.ContentLemmas.{all_stops, all_goes_on, all_ends}
use Rattle.dr_image.proofs.opening.are_numbers.Goals as goal

pub returns-then-not-do_numbers_fit : goal.returns-then-not-do_numbers_fit
returns-then-not-do_numbers_fit c =
    let parts = parts_in c.args.layout.now.bytes.now in
    sym (sym c.loop-d.invariant ∙ all_stops numbers_fit parts c.loop-d.d no_part (omega arith) (ap numbers_fit (sym c.part.ensures.seen) ∙ sym c.do_numbers_fit.ensures ∙ c.if-not-do_numbers_fit.true))

pub loop-d-preserved : goal.loop-d-preserved
loop-d-preserved c =
    let parts = parts_in c.args.layout.now.bytes.now in
    sym (all_goes_on numbers_fit parts c.loop-d.d no_part (omega arith) (ap numbers_fit (sym c.part.ensures.seen) ∙ sym c.do_numbers_fit.ensures ∙ c.if-not-do_numbers_fit.false)) ∙ c.loop-d.invariant

pub returns : goal.returns
returns c = sym (all_ends numbers_fit (parts_in c.args.layout.now.bytes.now) c.loop-d.d (omega (arith, c.loop-d-test.false))) ∙ c.loop-d.invariant
