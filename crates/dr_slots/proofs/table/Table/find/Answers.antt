use Rattle.std.proofs.Common.{inl, inr, subst, ◌+◌, ◌-◌, arith, rules}
use Rattle.dr_slots.specs.Table.{start, FindsFrom}
use Rattle.dr_slots.proofs.Tables.{step, no-slot, empty-slot, no-looks}
use Rattle.dr_slots.proofs.table.Table.find.Goals as goal
use Rattle.dr_slots.proofs.table.Table.find.Goals.{else-slot-hash-via-then-slot-hash+else-stands_at, else-slot-hash-via-else-slot-hash}

pub returns-in_default-clause-none : goal.returns-in_default-clause-none
returns-in_default-clause-none g c = λ so place found at.
    no-slot c.args.self.now.slots.items (64 - c.loop-look.look) (start c.args.self.now c.args.hash + c.loop-look.look) c.args.hash place (search rules) (c.loop-look.invariant place found at)

pub returns-then-slot-eq0-clause-none : goal.returns-then-slot-eq0-clause-none
returns-then-slot-eq0-clause-none g c = λ so place found at.
    empty-slot c.args.self.now.slots.items (64 - c.loop-look.look) (start c.args.self.now c.args.hash + c.loop-look.look) c.args.hash place c.in-Some.slot (search rules) (search rules) (c.loop-look.invariant place found at)

pub loop-look-preserved : goal.loop-look-preserved
loop-look-preserved g c = λ place found at.
    let slots = c.args.self.now.slots.items in
    let first = start c.args.self.now c.args.hash in
    let looked = c.loop-look.look in
    let test = c.loop-look-test.true in
    let further = step slots (64 - looked) (64 - (looked + 1)) (first + looked) c.args.hash place c.in-Some.slot (omega (arith, test)) (search rules) (c.loop-look.invariant place found at) in
    elim further [
      | inl both ↦ elim c.else-slot-hash.branch [
        | else-slot-hash-via-then-slot-hash+else-stands_at w ↦ (let ends = both.1 in absurd (w.stands_at.ensures.no w.if-stands_at.false (subst (λ p. g.S.Sought.stands c.args.sought.now p) (omega (arith, ends)) at)))
        | else-slot-hash-via-else-slot-hash w ↦ absurd (search (both, rules))
      ]
      | inr more ↦ subst (λ a. FindsFrom slots (64 - (looked + 1)) a c.args.hash place) (omega arith) more.1
    ]

pub returns-clause-none : goal.returns-clause-none
returns-clause-none g c = λ so place found at.
    let past = c.loop-look-test.false in
    no-looks c.args.self.now.slots.items (64 - c.loop-look.look) (start c.args.self.now c.args.hash + c.loop-look.look) c.args.hash place (omega (arith, past)) (c.loop-look.invariant place found at)
