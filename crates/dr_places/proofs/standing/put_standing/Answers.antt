use Rattle.std.proofs.Common.{◌∙◌, refl, ◌+◌, arith}
use Rattle.dr_places.specs.Places.{HoldJust}
use Rattle.dr_places.proofs.StandingLemmas.{all-ones, one-comb, none-combed, all-combed}
use Rattle.dr_places.proofs.standing.put_standing.Goals as goal

pub loop-first-init : goal.loop-first-init
loop-first-init c =
    let words = c.put_words.new.words in
    let long = c.put_words.ensures.count in
    let just : HoldJust c.args.count words = (c.requires.words.0, omega (arith, c.requires.words.1, long), omega (arith, c.requires.words.2, long)) in
    record {
      count = long;
      comb = refl;
      combed = all-ones c.args.count c.args.place words c.args.piece.now c.args.places.now just (λ k lt. c.put_words.ensures.each k (omega arith) (omega (arith, lt, long)));
    }

pub loop-first-preserved : goal.loop-first-preserved
loop-first-preserved c =
    let at = c.loop-first in
    record {
      count = c.put_comb.ensures.count ∙ at.invariant.count;
      comb = c.put_comb.ensures.comb ∙ at.invariant.comb;
      combed = one-comb c.args.count at.first c.args.place at.words c.put_comb.new.words c.args.piece.now c.args.places.now c.put_comb.ensures.each at.invariant.combed;
    }

pub returns-then-is_empty-clause-each : goal.returns-then-is_empty-clause-each
returns-then-is_empty-clause-each c =
    let at = c.loop-first in
    none-combed c.args.count (at.first + 1) c.args.place c.put_comb.new.words c.args.piece.now c.args.places.now (omega (arith, c.loop-first-test.true, c.min-first-end.ensures)) (c.is_empty.ensures c.if-is_empty.true)
    (one-comb c.args.count at.first c.args.place at.words c.put_comb.new.words c.args.piece.now c.args.places.now c.put_comb.ensures.each at.invariant.combed)

pub returns-clause-each : goal.returns-clause-each
returns-clause-each c =
    let at = c.loop-first in
    all-combed c.args.count at.first c.args.place at.words c.args.piece.now c.args.places.now (omega (arith, at.auto.first-end, c.min-first-end.ensures)) (λ lt. omega (arith, lt, c.loop-first-test.false, c.min-first-end.ensures)) at.invariant.combed
