use Rattle.std.proofs.Common.{pos, arith, get_or, ◌≤ℤ◌, ◌≤◌, ◌⊎◌, inl, inr, length}
use Rattle.std.proofs.lemmas.Int.{ints}
use Rattle.std.proofs.lemmas.List.{take_rest}
use Rattle.dr_having.proofs.Turning.{first-done, second-done, all-shared}
use Rattle.dr_having.proofs.number_steps.shared_cuts.Goals as goal
use Rattle.dr_having.proofs.number_steps.shared_cuts.Goals.{then-loop-i-test+else-j-others, else-loop-i-test}

pub loop-i-preserved-then-some-i : goal.loop-i-preserved-then-some-i
loop-i-preserved-then-some-i c =
    let was = c.loop-i.invariant in
    let le : get_or c.args.some.now c.loop-i.i (pos 0) ≤ℤ get_or c.args.others.now c.loop-i.j (pos 0) = let h = c.if-some-i.true in omega (arith, ints, h) in (
      omega arith,
      was.1,
      first-done c.args.some_within c.args.others_within c.args.some.now c.args.others.now c.loop-i.cuts.items c.push_where.new.cuts.items c.loop-i.in_some c.loop-i.in_others c.loop-i.i c.loop-i.j (pos 0)
          c.loop-i-test.true c.if-j-others.true le c.in_ok-push_where.ensures was.2,
    )

pub loop-i-preserved : goal.loop-i-preserved
loop-i-preserved c =
    let was = c.loop-i.invariant in
    let le : get_or c.args.others.now c.loop-i.j (pos 0) ≤ℤ get_or c.args.some.now c.loop-i.i (pos 0) = let h = c.if-some-i.false in omega (arith, ints, h) in (
      was.0,
      omega arith,
      second-done c.args.some_within c.args.others_within c.args.some.now c.args.others.now c.loop-i.cuts.items c.push_where-else-some-i.new.cuts.items c.loop-i.in_some c.loop-i.in_others c.loop-i.i c.loop-i.j (pos 0)
          c.loop-i-test.true c.if-j-others.true le c.in_ok-push_where-2.ensures was.2,
    )

pub returns-clause-shared : goal.returns-clause-shared
returns-clause-shared c =
    let done : (length c.args.some.now ≤ c.loop-i.i) ⊎ (length c.args.others.now ≤ c.loop-i.j) = elim c.loop-i-test.branch [
      | then-loop-i-test+else-j-others w ↦ inr (let h = w.if-j-others.false in omega (arith, h))
      | else-loop-i-test w ↦ inl (let h = w.loop-i-test.false in omega (arith, h))
    ] in
    (all-shared c.args.some_within c.args.others_within c.args.some.now c.args.others.now c.loop-i.cuts.items c.extend_where.new.cuts.items c.extend_where-2.new.cuts.items c.loop-i.in_some c.loop-i.in_others c.loop-i.i c.loop-i.j
    done (rw (take_rest c.args.some.now c.loop-i.i) at c.in_ok-extend_where.ensures) (rw (take_rest c.args.others.now c.loop-i.j) at c.in_ok-extend_where-2.ensures) c.loop-i.invariant.2).1
