-- The order of the groups of an answer is total.
use Rattle.std.proofs.Common.{◌≡◌, ◌∙◌, refl, subst, Bool, true, false, List, [], ◌∷◌}
use Rattle.std.specs.declared.cmp.Ordering.{Ordering}
use Rattle.std.specs.declared.cmp.Ordering.TheVariants.{Less, Equal, Greater}
use Rattle.std.specs.Ordering.{ordering_reverse}
use Rattle.std.specs.Cmp.{IsTotalOrder, on_total, then_total, back_total, int_cmp_total}
use Rattle.std.specs.Cmp.Lexicographic.{lists_total, nat_list_cmp_total}
use Rattle.dr_outputs.specs.Numbered.{number_at, text_at}
use Rattle.dr_order.specs.declared.output.Output.{Output}
use Rattle.dr_order.specs.declared.output.Output.TheVariants.{Dimension, Aggregation}
use Rattle.dr_order.specs.declared.order_column.OrderColumn.{OrderColumn}
use Rattle.dr_order.specs.Order.{turned, directed, output_cmp, columns_cmp}
use Rattle.dr_answers.specs.declared.result_row.ResultRow.{ResultRow}
use Rattle.dr_answers.specs.Given.{result_cmp}

reversed-turned : (o : Ordering) → ordering_reverse o ≡ turned o
reversed-turned Less = refl
reversed-turned Equal = refl
reversed-turned Greater = refl

directed_total : {K : Type 0} {R : K → K → Ordering} (descending : Bool) → IsTotalOrder R → IsTotalOrder (λ x y. directed descending (R x y))
directed_total false o = o
directed_total {K} {R} true o = subst IsTotalOrder (λ i x y. (o.antisymm y x ∙ reversed-turned (R x y)) i) (back_total o)

output_total : (output : Output) → IsTotalOrder (λ (a : ResultRow) (b : ResultRow). output_cmp output a.dims a.values b.dims b.values)
output_total (Dimension place) = on_total (λ (g : ResultRow). text_at place g.dims) nat_list_cmp_total
output_total (Aggregation place) = on_total (λ (g : ResultRow). number_at place g.values) int_cmp_total

columns_total : (cs : List OrderColumn) → IsTotalOrder (λ (a : ResultRow) (b : ResultRow). columns_cmp cs a.dims a.values b.dims b.values)
columns_total [] = record { antisymm = λ x y. refl; trans = λ x y z p q. p; congr = λ x y z p. refl }
columns_total (c ∷ cs) = then_total (directed_total c.descending (output_total c.output)) (columns_total cs)

pub result_total : (cs : List OrderColumn) → IsTotalOrder (result_cmp cs)
result_total cs =
    then_total (on_total (λ (g : ResultRow). g.time) int_cmp_total) (then_total (columns_total cs) (on_total (λ (g : ResultRow). g.dims) (lists_total nat_list_cmp_total)))
