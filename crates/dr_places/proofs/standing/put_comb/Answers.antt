use Rattle.std.proofs.Common.{◌≡◌, ◌∙◌, ap, ◌+◌, ◌*◌, ◌/◌, ◌%◌, ◌&&◌, true, drop, arith}
use Rattle.dr_places.specs.Places.{truth_in, fits_comb}
use Rattle.dr_places.proofs.StandingLemmas.{comb-kept, ones}
use Rattle.dr_places.proofs.standing.put_comb.Goals as goal

pub returns-clause-each : goal.returns-clause-each
returns-clause-each c k lt =
    let text = c.args.places.now in
    let piece = c.args.piece.now in
    let start = c.args.place + c.args.first in
    let t = start % 64 + k in
    let comb = c.put_letters.new.comb in
    let full : truth_in c.put_words.new.words t ≡ true = ones c.put_words.new.words t (c.put_words.ensures.each (t / 64) (omega arith) (omega (arith, lt, c.requires.words.1, c.requires.comb))) in
    let told = c.put_letters.ensures.each t (omega (arith, lt)) (omega (arith, lt, c.requires.within, c.requires.first)) in
    comb-kept c.args.words.now comb c.keep_bits.new.words piece text c.args.place c.args.first k
    (c.keep_bits.ensures.each (k / 64) (omega arith) (omega (arith, lt, c.requires.words.1)))
    (told ∙ ap (λ b. b && fits_comb 63 0 (drop c.args.first piece) (drop (64 * (start / 64) + t) text)) full)
