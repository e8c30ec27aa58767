use Rattle.std.proofs.Common.{◌<◌, IfSome, List, length, map, ap, subst, sym}
use Rattle.dr_base.specs.declared.key.Key.{Key}
use Rattle.dr_rollup.specs.HeldRows.{HeldRows}
use Rattle.dr_rollup.specs.Placed.{AreFound}
use Rattle.dr_rollup.proofs.Standing.{keys-combined}
use Rattle.dr_rollup.proofs.entries.Entries.combine.Goals as goal

pub invariant_of-self : goal.invariant_of-self
invariant_of-self c =
    let s = c.self.inside in
    let lt : c.args.place < length s.rows.rows = subst (λ n. c.args.place < n) (ap (λ (h : HeldRows). length h.rows) (sym c.self.view_is)) c.requires.place in
    subst (λ (l : List Key). IfSome s.places (AreFound l)) (sym (keys-combined (map (λ m. m.kind) c.args.metrics.now) c.args.inputs.now s.rows.rows c.combine.new.self.rows c.args.place lt c.combine.ensures.rows)) c.self.invariant
