use Rattle.std.proofs.Common.{refl, length}
use Rattle.dr_time.specs.Union.{union_holds}
use Rattle.dr_rowindex.proofs.TellLemmas.{tell-added}
use Rattle.dr_select.proofs.choosing.held.Goals as goal

pub returns-in_ok-set-in-Some : goal.returns-in_ok-set-in-Some
returns-in_ok-set-in-Some c =
    let added = rw (c.intervals-intervals.ensures, c.in-Some.ensures) at c.insert_held.ensures in
    tell-added (λ r. r.time) (union_holds c.args.union.now) c.args.lot.now.rows.now c.in_ok-set-in-Some.set c.insert_held.new.set (length c.args.lot.now.rows.now) c.in_ok-set-in-Some.ensures refl added
