use Rattle.std.proofs.Common.{refl, ◌<◌, get_or, length, arith}
use Rattle.std.specs.Int.RustNames.{bit_and}
use Rattle.dr_rowindex.proofs.WordLemmas.{to-more}
use Rattle.dr_rowindex.proofs.ZeroLemmas.{gathered-more, all-gathered, nothing-left}
use Rattle.dr_rowindex.proofs.words.keep_bits.Goals as goal

pub loop-k-preserved : goal.loop-k-preserved
loop-k-preserved c =
    let k = c.loop-k.k in
    let words = c.loop-k.words in
    let v = bit_and (get_or c.loop-k.words c.loop-k.k 0) (get_or c.args.others.now c.loop-k.k 0) in
    let lt : k < length words = omega (arith, c.loop-k-test.true, c.loop-k.invariant.paired.count, c.loop-k.auto.k-end) in
    record {
      paired = to-more k (λ a b. bit_and a b) c.args.others.now c.args.words.now words v lt refl c.loop-k.invariant.paired;
      gathered = gathered-more k c.loop-k.left v words lt c.loop-k.invariant.gathered;
    }

pub returns-clause-left : goal.returns-clause-left
returns-clause-left c = λ none. all-gathered c.loop-k.k c.loop-k.left c.loop-k.words (omega (arith, c.loop-k-test.false, c.loop-k.invariant.paired.count)) c.loop-k.invariant.gathered (nothing-left c.loop-k.left none)
