use Rattle.std.proofs.Common.{rules, w64, FitsSigned, ◌∙◌, ◌<◌, ap, sym, subst, ℤ}
use Rattle.std.proofs.lemmas.Int.{to_z-of_z}
use Rattle.dr_ask.specs.Asked.{asked}
use Rattle.dr_base.specs.declared.row.Row.{Row}
use Rattle.dr_scan.proofs.RowsInTurn.{places-skip, places-take, row_in-found}
use Rattle.dr_scan.proofs.placing.add_places.Goals as goal

pub selects-requires-clause-told : goal.selects-requires-clause-told
selects-requires-clause-told c = c.loop-row.invariant.told c.loop-row.row (subst (λ n. c.loop-row.row < n) c.len-row-end.ensures c.loop-row-test.true)

pub loop-row-preserved-then-not-branch : goal.loop-row-preserved-then-not-branch
loop-row-preserved-then-not-branch c =
    let less = subst (λ n. c.loop-row.row < n) c.len-row-end.ensures c.loop-row-test.true in
    record {
      told = c.loop-row.invariant.told;
      places = places-skip (asked c.args.query.now) c.args.rows.now c.loop-row.row less c.loop-row.places.items _ c.args.segment (sym c.in_ok-selects.ensures ∙ c.if-not-branch.true) c.loop-row.invariant.places;
    }

pub loop-row-preserved : goal.loop-row-preserved
loop-row-preserved c =
    let less = subst (λ n. c.loop-row.row < n) c.len-row-end.ensures c.loop-row-test.true in
    let found = row_in-found c.args.rows.now c.loop-row.row c.row.result c.row.ensures in
    let fits : FitsSigned w64 c.time-time.result = search rules in
    record {
      told = c.loop-row.invariant.told;
      places = places-take (asked c.args.query.now) c.args.rows.now c.loop-row.row less c.loop-row.places.items c.push.new.self.items _ _ c.args.segment (sym c.in_ok-selects.ensures ∙ c.if-not-branch.false)
          (ap (λ (t : ℤ). record { time = t; segment = c.args.segment; row = c.loop-row.row }) (to_z-of_z w64 c.time-time.result fits ∙ c.time-time.ensures ∙ ap (λ (r : Row). r.key.time) (sym found))) c.in_ok-push.ensures.items c.loop-row.invariant.places;
    }
