use Rattle.std.proofs.Common.{subst, take, []}
use Rattle.std.proofs.lemmas.List.{take_all}
use Rattle.std.proofs.lemmas.Result.{IfOk-weaker}
use Rattle.dr_base.specs.declared.row.Row.{Row}
use Rattle.dr_time.specs.Instant.{IsInstant}
use Rattle.dr_workers.specs.Gathered.{AreGathered}
use Rattle.dr_workers.specs.Shared.{rows_of, IsFoldOf}
use Rattle.dr_workers.proofs.Rows.{rows-more, in-range}
use Rattle.dr_workers.proofs.Selected.{none-waits}
use Rattle.dr_workers.proofs.working.partial_of.Goals as goal

pub loop-i-init : goal.loop-i-init
loop-i-init g c = none-waits c.args.query.now [] c.in_ok-groups.groups c.new-waiting.result.items c.new-waiting.ensures.items (c.in_ok-groups.ensures.value, c.in_ok-groups.ensures.printable)

pub with_range-requires-clause-own : goal.with_range-requires-clause-own
with_range-requires-clause-own g c = (rows_of (take c.loop-i.i c.args.fragments.now), c.loop-i.invariant)

pub with_range-requires-clause-instants : goal.with_range-requires-clause-instants
with_range-requires-clause-instants g c =
    in-range (λ (r : Row). IsInstant r.key.time) c.args.fragments.now c.loop-i.i c.index-fragments-i.result c.loop-i-test.true c.index-fragments-i.is c.requires

pub loop-i-preserved : goal.loop-i-preserved
loop-i-preserved g c =
    let before = rows_of (take c.loop-i.i c.args.fragments.now) in
    subst (λ rows. AreGathered c.args.query.now rows c.in_ok-groups-2.groups c.with_range.new.waiting.items) (rows-more c.args.fragments.now c.loop-i.i c.index-fragments-i.result c.loop-i-test.true c.index-fragments-i.is)
    (c.in_ok-groups-2.ensures before c.loop-i.invariant)

pub with_waiting-requires : goal.with_waiting-requires
with_waiting-requires g c = record { own = (rows_of (take c.loop-i.i c.args.fragments.now), c.loop-i.invariant) }

pub returns : goal.returns
returns g c =
    IfOk-weaker c.with_waiting.result _ (IsFoldOf c.args.query.now (rows_of c.args.fragments.now))
    (λ p fold. subst (λ fs. IsFoldOf c.args.query.now (rows_of fs) p) (take_all c.loop-i.i c.args.fragments.now c.loop-i-test.false) (fold (rows_of (take c.loop-i.i c.args.fragments.now)) c.loop-i.invariant))
    c.with_waiting.ensures.value
