use Rattle.std.proofs.Common.{◌∙◌, sym, ap, arith}
use Rattle.dr_image.specs.Layout.{parts_in}
use Rattle.dr_image.specs.Parts.{no_part}
use Rattle.dr_image.specs.Opening.{is_dictionary}
use Rattle.dr_image.proofs.ContentLemmas.{all_stops, all_goes_on, all_ends}
use Rattle.dr_image.proofs.opening.are_dictionaries.Goals as goal

pub returns-then-not-has_dictionary : goal.returns-then-not-has_dictionary
returns-then-not-has_dictionary c =
    let parts = parts_in c.args.layout.now.bytes.now in
    sym (sym c.loop-d.invariant ∙ all_stops is_dictionary parts c.loop-d.d no_part (omega arith) (ap is_dictionary (sym c.part.ensures.seen) ∙ sym c.has_dictionary.ensures ∙ c.if-not-has_dictionary.true))

pub loop-d-preserved : goal.loop-d-preserved
loop-d-preserved c =
    let parts = parts_in c.args.layout.now.bytes.now in
    sym (all_goes_on is_dictionary parts c.loop-d.d no_part (omega arith) (ap is_dictionary (sym c.part.ensures.seen) ∙ sym c.has_dictionary.ensures ∙ c.if-not-has_dictionary.false)) ∙ c.loop-d.invariant

pub returns : goal.returns
returns c = sym (all_ends is_dictionary (parts_in c.args.layout.now.bytes.now) c.loop-d.d (omega (arith, c.loop-d-test.false))) ∙ c.loop-d.invariant
