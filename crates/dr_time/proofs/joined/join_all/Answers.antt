use Rattle.std.proofs.Common.{pos, get_or, drop, ◌+◌}
use Rattle.dr_time.specs.declared.interval.Interval.{Interval}
use Rattle.dr_time.proofs.JoinedLemmas.{next-rising, rest-rise, one_more_held, tails}
use Rattle.dr_time.proofs.joined.join_all.Goals as goal

pub join-requires-clause-rising : goal.join-requires-clause-rising
join-requires-clause-rising c =
    next-rising c.loop-interval.joined.items c.args.sorted.now c.loop-interval.interval-index (record { start = pos 0; end = pos 0 }) c.loop-interval-test.true c.loop-interval.invariant.2

pub loop-interval-preserved : goal.loop-interval-preserved
loop-interval-preserved c =
    let none : Interval = record { start = pos 0; end = pos 0 } in
    let lt = c.loop-interval-test.true in
    let rest = rest-rise c.args.sorted.now c.loop-interval.interval-index none lt c.loop-interval.invariant.3 in (
      c.in_ok-join.ensures.apart,
      one_more_held c.loop-interval.joined.items c.join.new.joined.items c.args.sorted.now c.loop-interval.interval-index none lt c.loop-interval.invariant.1 c.in_ok-join.ensures.times,
      tails c.join.new.joined.items (get_or c.args.sorted.now c.loop-interval.interval-index none) (drop (c.loop-interval.interval-index + 1) c.args.sorted.now) c.in_ok-join.ensures.rising rest.0,
      rest.1,
    )
