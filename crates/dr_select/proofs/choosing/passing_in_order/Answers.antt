use Rattle.std.proofs.Common.{refl, length}
use Rattle.dr_predicate.specs.Match.{passes}
use Rattle.dr_select.specs.Rows.{value_of}
use Rattle.dr_rowindex.proofs.TellLemmas.{tell-added}
use Rattle.dr_select.proofs.choosing.passing_in_order.Goals as goal

pub returns-in_ok-insert_passing-in-Some : goal.returns-in_ok-insert_passing-in-Some
returns-in_ok-insert_passing-in-Some c =
    let added = rw (c.in-Some.ensures) at c.in_ok-insert_passing-in-Some.ensures in
    tell-added (value_of c.args.test.now.place) (passes c.args.test.now.test) c.args.lot.now.rows.now c.in_ok-set-in-Some.set c.insert_passing.new.set (length c.args.lot.now.rows.now) c.in_ok-set-in-Some.ensures refl added
