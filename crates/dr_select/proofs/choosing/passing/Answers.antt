use Rattle.std.proofs.Common.{◌∙◌, ap, sym, subst}
use Rattle.dr_predicate.specs.declared.value_test.ValueTest.TheVariants.{Like}
use Rattle.dr_predicate.specs.Match.{passes}
use Rattle.dr_rowindex.specs.Orders.{Tell}
use Rattle.dr_select.specs.Rows.{value_of}
use Rattle.dr_select.proofs.choosing.passing.Goals as goal

pub returns : goal.returns
returns c =
    subst (λ t. Tell (λ row. passes t (value_of c.args.test.now.place row)) c.args.lot.now.rows.now c.in_ok-set.set) (ap Like c.as_str.ensures ∙ sym c.in-Like.is) c.in_ok-set.ensures
