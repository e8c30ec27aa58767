use Rattle.std.proofs.Common.{◌∙◌, sym, ap, subst, slice_get, slice_set}
use Rattle.dr_slots.specs.declared.slot.Slot.{Slot}
use Rattle.dr_slots.specs.Table.{start, FindsFrom}
use Rattle.dr_slots.proofs.Tables.{still-found, now-found}
use Rattle.dr_slots.proofs.table.Table.put_end.Goals as goal

pub returns-in-Some-clause-put : goal.returns-in-Some-clause-put
returns-in-Some-clause-put c = λ so place ends.
    let free = c.in-Some.ensures in
    let slots = c.args.self.now.slots.items in
    let new : Slot = record { hash = c.args.hash; end = c.args.end } in
    let found = now-found slots free.looks (start c.args.self.now c.args.hash) free.slot new place 64 free.taken (ap (slice_get slots) (sym free.behind) ∙ free.there) free.within ends in
    subst (λ a. FindsFrom (slice_set slots a new) 64 (start c.args.self.now c.args.hash) c.args.hash place) (sym free.behind) found

pub returns-in-Some-clause-kept : goal.returns-in-Some-clause-kept
returns-in-Some-clause-kept c = λ hash place found.
    let free = c.in-Some.ensures in
    still-found c.args.self.now.slots.items c.in-Some.at free.slot (record { hash = c.args.hash; end = c.args.end }) free.there free.empty 64 (start c.args.self.now hash) hash place found
