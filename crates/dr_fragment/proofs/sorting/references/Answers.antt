use Rattle.std.proofs.Common.{◌≡◌, ◌∙◌, sym, ap, ◌<◌, [], ◌∷◌, ◌++◌, length, arith, rules, FitsSigned, w64, ℤ}
use Rattle.std.proofs.lemmas.Int.{to_z-of_z}
use Rattle.dr_base.specs.declared.row.Row.{Row}
use Rattle.dr_fragment.proofs.SameRows.{one_more_taken}
use Rattle.dr_fragment.proofs.sorting.references.Goals as goal

pub loop-i-preserved : goal.loop-i-preserved
loop-i-preserved c =
    let rows = c.args.arrived.now in
    let at : ℤ → Row = λ t. record { key = record { time = t; dims = c.row-time.result.1.now }; metrics = c.row-time.result.2.now } in
    let fits : FitsSigned w64 c.row-time.result.0 = search rules in
    let same : c.of_parts.result ≡ at c.row-time.result.0 = c.of_parts.ensures ∙ ap at (to_z-of_z w64 c.row-time.result.0 fits) in
    let lt : c.loop-i.i < length rows = omega (arith, c.loop-i-test.true, c.len-i-end.ensures) in
    c.in_ok-push.ensures.items ∙ (λ i. c.loop-i.invariant i ++ same i ∷ []) ∙ sym (one_more_taken rows c.loop-i.i (at c.row-time.result.0) lt c.row-time.ensures)
