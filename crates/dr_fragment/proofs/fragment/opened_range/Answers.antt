use Rattle.std.proofs.Common.{◌∙◌, sym, rules, arith, FitsSigned}
use Rattle.std.specs.Int.{w64}
use Rattle.std.proofs.lemmas.Int.{to_z-of_z}
use Rattle.dr_fragment.proofs.Images.{opened_at}
use Rattle.dr_fragment.proofs.fragment.opened_range.Goals as goal

pub returns : goal.returns
returns c =
    let fits : FitsSigned w64 c.chunk.result = search rules in
    let at = opened_at c.args.bytes.now c.in_ok-view.view (λ i. omega (arith, c.type_inv.bytes i)) (sym c.open.ensures ∙ c.in_ok-view.was) in
    simp to_z-of_z (rw (c.chunk.ensures, c.range-from.ensures.from, c.range-from.ensures.to) at)
