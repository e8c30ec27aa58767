use Rattle.std.proofs.Common.{◌≡◌, ◌∙◌, ◌++◌, ◌∷◌, [], sym, ap, map, slice_range, arith, rules, FitsSigned, w64}
use Rattle.std.proofs.lemmas.Int.{to_z-of_z}
use Rattle.std.proofs.lemmas.List.{map-append}
use Rattle.dr_base.specs.declared.row.Row.{Row}
use Rattle.dr_select.specs.Rows.{key_seen}
use Rattle.dr_select.proofs.KeyLemmas.{one-last}
use Rattle.dr_select.proofs.rows.arrived_keys.Goals as goal

pub loop-i-preserved : goal.loop-i-preserved
loop-i-preserved c =
    let rows = c.args.rows.now in
    let from = c.args.from in
    let i = c.loop-i.i in
    let r : Row = record { key = record { time = c.row-time.result.0; dims = c.row-time.result.1.now }; metrics = c.row-time.result.2.now } in
    let own : FitsSigned w64 c.row-time.result.0 = search rules in
    let pushed = rw (to_z-of_z w64 c.row-time.result.0 own) at c.in_ok-push.ensures.items in
    ap (map key_seen) pushed ∙ map-append key_seen c.loop-i.keys.items _ ∙ ap (λ l. l ++ r.key ∷ []) c.loop-i.invariant
    ∙ sym (ap (map (λ (r : Row). r.key)) (one-last rows from i r c.loop-i.auto.i (omega (arith, c.loop-i-test.true, c.requires.within)) c.row-time.ensures) ∙ map-append (λ (r : Row). r.key) (slice_range rows from i) (r ∷ []))

pub returns : goal.returns
returns c =
    let at : c.loop-i.i ≡ c.args.to = omega (arith, c.loop-i-test.false, c.loop-i.auto.i-end c.requires.some) in
    c.loop-i.invariant ∙ ap (λ j. map (λ (r : Row). r.key) (slice_range c.args.rows.now c.args.from j)) at
