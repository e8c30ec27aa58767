use Rattle.std.proofs.Common.{◌≡◌, subst, arith, rules, length}
use Rattle.dr_slots.specs.Table.{start, Finds}
use Rattle.dr_slots.proofs.Tables.{in-a-slot, there-within}
use Rattle.dr_slots.proofs.table.Table.grown.Goals as goal

pub returns : goal.returns
returns c = λ hash place found.
    let slots = c.args.self.now.slots.items in
    let it = in-a-slot slots 64 (start c.args.self.now hash) hash place found in
    let less = there-within slots it.0 it.1 it.2 in
    let all : c.len-i-end.result ≡ length slots = search rules in
    let done = c.loop-i-test.false in
    subst (λ h. Finds c.loop-i.table h place) it.3 (c.loop-i.invariant it.0 place it.1 (omega (arith, less, all, done)) it.2 it.4)
