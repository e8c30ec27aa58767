use Rattle.std.proofs.Common.{◌≡◌, None, is_some, true, rules}
use Rattle.std.specs.BTreeMap.{get}
use Rattle.dr_base.specs.Order.{key_cmp}
use Rattle.dr_rollup.proofs.Copied.{with-new, with-known}
use Rattle.dr_rollup.proofs.placed.copy_of.Goals as goal

pub loop-key-preserved-in_ok-insert : goal.loop-key-preserved-in_ok-insert
loop-key-preserved-in_ok-insert c = λ q.
    let none : get key_cmp c.loop-key.copy c.in-Some.key.now ≡ None = search rules in
    with-new c.loop-key.yielded (c.in-Some.key, c.in-Some.place) q (get key_cmp c.loop-key.copy) (get key_cmp c.insert.new.self) c.loop-key.invariant none (search rules)

pub loop-key-preserved : goal.loop-key-preserved
loop-key-preserved c = λ q.
    let some : is_some (get key_cmp c.loop-key.copy c.in-Some.key.now) ≡ true = search rules in
    with-known c.loop-key.yielded (c.in-Some.key, c.in-Some.place) q (get key_cmp c.loop-key.copy) c.loop-key.invariant some
