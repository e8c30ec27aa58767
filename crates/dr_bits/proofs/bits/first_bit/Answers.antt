use Rattle.std.proofs.Common.{◌≡◌, subst, ◌+◌, ◌/◌, true, arith}
use Rattle.dr_bits.specs.Bits.{truth_in}
use Rattle.dr_bits.proofs.BitLemmas.{none-in-word, first-in-word}
use Rattle.dr_bits.proofs.bits.first_bit.Goals as goal

pub returns-then-first-count : goal.returns-then-first-count
returns-then-first-count c =
    let words = c.args.words.now in
    let k = c.loop-k.k in
    let first = first-in-word words c.args.from k c.args.count c.lowest_of.result c.loop-k-test.true c.loop-k.invariant.before (c.type_inv.words (k / 64)).fits c.lowest_of.ensures.same c.lowest_of.ensures.before in
    let same : k + c.lowest_of.result ≡ c.saturating_add-first.result = omega (arith, c.saturating_add-first.ensures, c.if-first-count.true, c.ranges.count.fits) in (
      omega (arith, c.loop-k.invariant.from, same),
      c.if-first-count.true,
      subst (λ i. truth_in words i ≡ true) same first.0,
      λ j le lt. first.1 j le (omega (arith, lt, same)),
    )

pub returns-else-first-count : goal.returns-else-first-count
returns-else-first-count c j le lt =
    let words = c.args.words.now in
    let k = c.loop-k.k in
    let first = first-in-word words c.args.from k c.args.count c.lowest_of.result c.loop-k-test.true c.loop-k.invariant.before (c.type_inv.words (k / 64)).fits c.lowest_of.ensures.same c.lowest_of.ensures.before in
    first.1 j le (omega (arith, lt, c.saturating_add-first.ensures, c.if-first-count.false, c.ranges.count.fits))

pub loop-k-preserved : goal.loop-k-preserved
loop-k-preserved c = record {
  from = omega (arith, c.saturating_add-k.ensures, c.loop-k.invariant.from, c.loop-k-test.true, c.ranges.count.fits);
  before = λ j le lt less. none-in-word c.args.words.now c.args.from c.loop-k.k c.args.count c.loop-k-test.true c.loop-k.invariant.before c.if-left-ne0.false j le (omega (arith, lt, c.saturating_add-k.ensures));
}
