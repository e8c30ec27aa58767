use Rattle.std.proofs.Common.{ap, ℕ, ◌<◌, get_or, length, arith}
use Rattle.std.specs.Int.RustNames.{bit_and, bit_or}
use Rattle.dr_rowindex.proofs.WordLemmas.{done-more}
use Rattle.dr_rowindex.proofs.ZeroLemmas.{gathered-more, all-gathered, nothing-left}
use Rattle.dr_rowindex.proofs.words.add_bits_of_three.Goals as goal

pub loop-k-preserved : goal.loop-k-preserved
loop-k-preserved c =
    let k = c.loop-k.k in
    let words = c.loop-k.words in
    let before = c.args.words.now in
    let met : (w i : ℕ) → ℕ = λ w i. bit_or w (bit_and (bit_and (get_or c.args.others.now i 0) (get_or c.args.a.now i 0)) (get_or c.args.b.now i 0)) in
    let v = met (get_or words k 0) k in
    let lt : k < length words = omega (arith, c.loop-k-test.true, c.loop-k.invariant.done.count, c.loop-k.auto.k-end) in
    record {
      done = done-more k (λ i. met (get_or before i 0) i) before words v lt (ap (λ w. met w k) (c.loop-k.invariant.done.left k (omega arith))) c.loop-k.invariant.done;
      gathered = gathered-more k c.loop-k.left v words lt c.loop-k.invariant.gathered;
    }

pub returns-clause-left : goal.returns-clause-left
returns-clause-left c = λ none. all-gathered c.loop-k.k c.loop-k.left c.loop-k.words (omega (arith, c.loop-k-test.false, c.loop-k.invariant.done.count)) c.loop-k.invariant.gathered (nothing-left c.loop-k.left none)
