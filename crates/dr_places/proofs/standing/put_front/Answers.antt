use Rattle.std.proofs.Common.{◌∙◌, ap, ◌+◌, ◌<◌, ◌&&◌, length, get_or, arith}
use Rattle.std.proofs.lemmas.List.{get_or_default}
use Rattle.dr_like.specs.Like.{letter_fits}
use Rattle.dr_places.specs.Places.{HoldJust, truth_in}
use Rattle.dr_places.proofs.StandingLemmas.{led-none, led-more}
use Rattle.dr_places.proofs.standing.put_front.Goals as goal

pub loop-k-init : goal.loop-k-init
loop-k-init c =
    let words = c.put_words.new.words in
    let long = c.put_words.ensures.count in
    let just : HoldJust c.args.count words = (c.requires.words.0, omega (arith, c.requires.words.1, long), omega (arith, c.requires.words.2, long)) in
    record {
      count = long;
      led = led-none c.args.count c.args.place words c.args.piece.now c.args.places.now just (λ k lt. c.put_words.ensures.each k (omega arith) (omega (arith, lt, long)));
    }

pub loop-k-preserved : goal.loop-k-preserved
loop-k-preserved c =
    let at = c.loop-k in
    let piece = c.args.piece.now in
    let text = c.args.places.now in
    let lt : at.k < length piece = omega (arith, c.loop-k-test.true, at.auto.k-end) in
    let letter = c.index-piece-k.is ∙ get_or_default piece at.k c.index-piece-k.result 0 lt in
    record {
      count = c.put_letter.ensures.count ∙ at.invariant.count;
      led = led-more c.args.count at.k c.args.place at.words c.put_letter.new.words piece text lt (λ k less. omega (arith, less, lt, c.requires.within))
          (λ k less. c.put_letter.ensures.each k (omega (arith, less, c.requires.words.1, at.invariant.count)) (omega (arith, less, lt, c.requires.within))
          ∙ ap (λ p. truth_in at.words k && letter_fits p (get_or text (c.args.place + at.k + k) 0)) letter)
          at.invariant.led;
    }
