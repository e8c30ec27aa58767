use Rattle.std.proofs.Common.{◌≡◌, inl, inr, subst, slice_range, take, drop, ◌-◌, arith}
use Rattle.std.proofs.lemmas.Bool.{cases_lt}
use Rattle.dr_rowindex.specs.Orders.{Put}
use Rattle.dr_rowindex.proofs.PutLemmas.{put-both, slices-joined}
use Rattle.dr_rowindex.proofs.row_order.RowOrder.insert_between.Goals as goal

pub loop-k-preserved : goal.loop-k-preserved
loop-k-preserved c =
    let rows = c.args.self.now in
    let from = c.args.from in
    let k = c.loop-k.k in
    let end = c.insert_from-k.result in
    let le = c.loop-k.invariant.0 in (
      omega (arith, le, c.insert_from-k.ensures.more),
      (
        (λ some. c.insert_from-k.ensures.within),
        (
          (λ none. absurd (omega (arith, none, c.loop-k-test.true, le))),
          put-both (slice_range rows from k) (slice_range rows k end) (slice_range rows from end) c.args.set.now c.loop-k.set c.insert_from-k.new.set
              (slices-joined rows from k end le (omega (arith, c.insert_from-k.ensures.more))) c.loop-k.invariant.1.1.1 c.insert_from-k.ensures.put,
        ),
      ),
    )

pub returns : goal.returns
returns c =
    let rows = c.args.self.now in
    let from = c.args.from in
    let to = c.args.to in
    let k = c.loop-k.k in
    let same : k - from ≡ to - from = elim (cases_lt from to) [
      | inl less ↦ (let close = c.loop-k.invariant.1.0 (omega (arith, less)) in omega (arith, close, c.loop-k-test.false))
      | inr more ↦ (let at = c.loop-k.invariant.1.1.0 more in omega (arith, at, more))
    ] in
    subst (λ n. Put (take n (drop from rows)) c.args.set.now c.loop-k.set) same c.loop-k.invariant.1.1.1
