use Rattle.std.proofs.Common.{◌≡◌, ◌∙◌, sym, min, length, arith}
use Rattle.std.specs.Ordering.{nat_cmp}
use Rattle.std.specs.Cmp.Lexicographic.{slice_cmp}
use Rattle.dr_fragment.proofs.Orders.{longer_follows}
use Rattle.dr_fragment.proofs.row_ref.order_one_by_one.Goals as goal

pub returns : goal.returns
returns c =
    let a = c.dim_count-a_count.ensures in
    let b = c.dim_count-b_count.ensures in
    let all : c.loop-d.d ≡ c.min-d-end.result = omega (arith, c.loop-d-test.false, c.loop-d.auto.d-end) in
    let end : c.loop-d.d ≡ min (length c.args.a.now.key.dims) (length c.args.b.now.key.dims) = all ∙ c.min-d-end.ensures ∙ (λ i. min (a i) (b i)) in
    c.cmp.ensures ∙ (λ i. nat_cmp (a i) (b i)) ∙ sym (longer_follows (slice_cmp nat_cmp) c.args.a.now.key.dims c.args.b.now.key.dims c.loop-d.d end) ∙ c.loop-d.invariant
