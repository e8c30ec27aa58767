use Rattle.std.proofs.Common.{subst, refl}
use Rattle.dr_predicate.specs.declared.value_test.ValueTest.TheVariants.{Like}
use Rattle.dr_predicate.specs.Match.{passes}
use Rattle.dr_rowindex.specs.Orders.{Tell}
use Rattle.dr_select.specs.Rows.{value_of}
use Rattle.dr_letters.proofs.RowLemmas.{tell-mapped}
use Rattle.dr_select.proofs.choosing.fitting.Goals as goal

pub returns : goal.returns
returns c =
    let rows = c.args.lot.now.rows.now in
    let set = c.in_ok-set.set in
    let told = subst (λ l. Tell (passes (Like c.args.pattern.now)) l set) c.in-Some.ensures c.in_ok-set.ensures in
    tell-mapped (passes (Like c.args.pattern.now)) (value_of c.args.place) (λ row. passes (Like c.args.pattern.now) (value_of c.args.place row)) rows set (λ row. refl) told
