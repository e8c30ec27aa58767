use Rattle.std.proofs.Common.{inr, ◌∙◌, ap, ap₂, sym, subst, ◌+◌, ◌<◌, ◌&&◌, length, get_or, arith}
use Rattle.dr_places.specs.Places.{has_bit, IsKept}
use Rattle.dr_bits.proofs.BitLemmas.{bit-and}
use Rattle.dr_places.proofs.WordLemmas.{to-more}
use Rattle.dr_places.proofs.words.keep_bits.Goals as goal

pub loop-k-preserved : goal.loop-k-preserved
loop-k-preserved c =
    let k = c.loop-k.k in
    let words = c.loop-k.words in
    let before = c.loop-k.invariant.left k (inr (omega arith)) in
    let lt : k < length words = omega (arith, c.loop-k-test.true, c.requires.words, c.loop-k.invariant.count) in
    to-more c.args.from k _ c.args.words.now words _ lt
    (λ j less. bit-and (get_or words k 0) c.word_from.result j ∙ ap₂ (λ a b. a && b) (ap (λ w. has_bit w j) before) (c.word_from.ensures j less)) c.loop-k.invariant

pub returns-then-bits-eq0-clause-each : goal.returns-then-bits-eq0-clause-each
returns-then-bits-eq0-clause-each c k le lt =
    let others = c.args.others.now in
    subst (λ b. IsKept (get_or others k 0) (get_or others (k + 1) 0) b (get_or c.args.words.now k 0) (get_or c.keep_words.new.words k 0)) (sym c.if-bits-eq0.true) (c.keep_words.ensures.each k le lt)
