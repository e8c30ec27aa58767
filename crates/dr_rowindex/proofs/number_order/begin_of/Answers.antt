use Rattle.std.proofs.Common.{rules, ◌≡◌, false, pos, sym, subst, get_or, FitsSigned}
use Rattle.std.specs.Int.{w128}
use Rattle.std.proofs.lemmas.Int.{to_z-of_z}
use Rattle.dr_rowindex.specs.Orders.{reached}
use Rattle.dr_rowindex.proofs.NumberLemmas.{reached-false}
use Rattle.dr_rowindex.proofs.number_order.begin_of.Goals as goal

pub returns-in-Some-clause-before : goal.returns-in-Some-clause-before
returns-in-Some-clause-before c j r lt =
    let number = c.in-Some.number in
    let n = get_or c.args.numbers.now (get_or c.args.rows.now j r) (pos 0) in
    let fits : FitsSigned w128 number = search rules in
    let low = rw (to_z-of_z w128 number fits) at c.place_of.ensures.before in
    subst (λ from. reached from n ≡ false) (sym c.in-Some.is) (reached-false number n (low j r lt))
