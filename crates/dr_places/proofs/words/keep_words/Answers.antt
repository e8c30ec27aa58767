use Rattle.std.proofs.Common.{inr, ◌∙◌, ap, ap₂, ◌+◌, ◌<◌, ◌&&◌, length, get_or, arith}
use Rattle.dr_places.specs.Places.{has_bit}
use Rattle.dr_bits.proofs.BitLemmas.{bit-and}
use Rattle.dr_places.proofs.BitLemmas.{word-whole}
use Rattle.dr_places.proofs.WordLemmas.{to-more}
use Rattle.dr_places.proofs.words.keep_words.Goals as goal

pub loop-k-preserved : goal.loop-k-preserved
loop-k-preserved c =
    let k = c.loop-k.k in
    let words = c.loop-k.words in
    let others = c.args.others.now in
    let before = c.loop-k.invariant.left k (inr (omega arith)) in
    let lt : k < length words = omega (arith, c.loop-k-test.true, c.requires.words, c.loop-k.invariant.count) in
    to-more c.args.from k _ c.args.words.now words _ lt
    (λ j less. bit-and (get_or words k 0) (get_or others k 0) j ∙ ap₂ (λ a b. a && b) (ap (λ w. has_bit w j) before) (word-whole (get_or others k 0) (get_or others (k + 1) 0) j less)) c.loop-k.invariant
