use Rattle.std.proofs.Common.{◌≡◌, ◌+◌, Some, slice_get, rules}
use Rattle.dr_slots.specs.Table.{start, AreTaken}
use Rattle.dr_slots.proofs.Tables.{taken-further}
use Rattle.dr_slots.proofs.table.Table.free.Goals as goal

pub loop-look-init : goal.loop-look-init
unfolding AreTaken
loop-look-init c = tt

pub returns-then-slot-eq0 : goal.returns-then-slot-eq0
returns-then-slot-eq0 c = record {
  looks = c.loop-look.look;
  within = search rules;
  behind = search rules;
  taken = c.loop-look.invariant;
  slot = c.in-Some.slot;
  there = search rules;
  empty = search rules;
}

pub loop-look-preserved : goal.loop-look-preserved
loop-look-preserved c =
    let there : slice_get c.args.self.now.slots.items (start c.args.self.now c.args.hash + c.loop-look.look) ≡ Some c.in-Some.slot = search rules in
    taken-further c.args.self.now.slots.items c.loop-look.look (start c.args.self.now c.args.hash) c.in-Some.slot c.loop-look.invariant there (search rules)
