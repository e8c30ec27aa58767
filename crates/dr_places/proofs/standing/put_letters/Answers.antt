use Rattle.std.proofs.Common.{◌∙◌, ap, ◌+◌, ◌-◌, ◌*◌, ◌<◌, ◌&&◌, length, get_or, arith}
use Rattle.std.proofs.lemmas.List.{get_or_default}
use Rattle.dr_like.specs.Like.{letter_fits}
use Rattle.dr_places.specs.Places.{truth_in}
use Rattle.dr_places.proofs.StandingLemmas.{one-letter}
use Rattle.dr_places.proofs.standing.put_letters.Goals as goal

pub overflow_add-word : goal.overflow_add-word
overflow_add-word c = omega (arith, c.requires.within, c.requires.some, c.loop-left.invariant.within, c.loop-left-test.true, c.count.ensures, c.count.type_inv)

pub overflow_mul-word : goal.overflow_mul-word
overflow_mul-word c = omega (arith, c.requires.within, c.requires.some, c.loop-left.invariant.within, c.loop-left-test.true, c.count.ensures, c.count.type_inv)

pub loop-left-preserved : goal.loop-left-preserved
loop-left-preserved c =
    let at = c.loop-left in
    let piece = c.args.piece.now in
    let text = c.args.places.now in
    let j = c.args.first + 64 * (at.left - 1) in
    let lt : j < length piece = omega (arith, at.invariant.within, c.loop-left-test.true, c.requires.first) in
    let letter = c.index-piece-first.is ∙ get_or_default piece j c.index-piece-first.result 0 lt in
    record {
      within = omega (arith, at.invariant.within);
      count = c.put_letter.ensures.count ∙ at.invariant.count;
      told = λ k less long.
          let x = 64 * (c.args.word + (at.left - 1)) + k in
          let within : x < length text = omega (arith, long, at.invariant.within, c.loop-left-test.true, c.requires.first) in
          one-letter (truth_in c.args.comb.now k) (truth_in at.comb k) (truth_in c.put_letter.new.words k) j x (c.args.first + 64 * at.left) (64 * (c.args.word + at.left) + k) piece text lt within
          (omega (arith, c.loop-left-test.true)) (omega (arith, c.loop-left-test.true)) (at.invariant.told k less long)
          (c.put_letter.ensures.each k less within ∙ ap (λ p. truth_in at.comb k && letter_fits p (get_or text x 0)) letter);
    }
