use Rattle.std.proofs.Common.{rules, ◌≡◌, [], ap, sym, subst, map, get_or, length, arith}
use Rattle.std.specs.Ordering.{is_lt, nat_cmp}
use Rattle.std.specs.Cmp.Lexicographic.{slice_cmp}
use Rattle.std.proofs.lemmas.Fn.{always_returns_same}
use Rattle.std.proofs.lemmas.List.FromFn.{length-range_with_len}
use Rattle.std.proofs.lemmas.List.Sorted.{length_permutation}
use Rattle.dr_rowindex.specs.Orders.{TextsRise}
use Rattle.dr_rowindex.proofs.RowLemmas.{all-sorted}
use Rattle.dr_rowindex.proofs.TextLemmas.{texts_rank, texts-rise}
use Rattle.dr_rowindex.proofs.text_order.TextOrder.of.Goals as goal

pub of-requires : goal.of-requires
of-requires c =
    let before = c.in_ok-rows.rows.items in
    let after = c.sort_by.new.self.items in
    all-sorted c.len.result before after c.in_ok-rows.ensures c.sort_by.ensures.permutation (length_permutation before after c.sort_by.ensures.permutation)

pub invariant_of-result : goal.invariant_of-result
invariant_of-result c =
    let texts = map (λ t. t.now) c.args.texts.items in
    let before = c.in_ok-rows.rows.items in
    let after = c.sort_by.new.self.items in
    let long : length c.in_ok-order.order ≡ length c.args.texts.items =
    omega (arith, ap length c.in_ok-order.ensures, length_permutation before after c.sort_by.ensures.permutation, ap length c.in_ok-rows.ensures, length-range_with_len 0 c.len.result, c.len.ensures, c.args.texts.ok.0) in
    let sorted = c.in_ok-sort_by.ensures.sorted (λ a b. is_lt (slice_cmp nat_cmp (get_or texts a []) (get_or texts b []))) (texts_rank texts)
    (always_returns_same _ (λ a r. is_lt r ≡ is_lt (slice_cmp nat_cmp (get_or texts a.0.now []) (get_or texts a.1.0.now []))) _ (λ a r f called. search rules)) in
    (long, subst (TextsRise texts) (sym c.in_ok-order.ensures) (texts-rise texts after sorted))
