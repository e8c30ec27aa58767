use Rattle.std.proofs.Common.{rules, is_lt}
use Rattle.std.specs.Cmp.{on_total, back_total, int_cmp_total}
use Rattle.std.specs.Ordering.{int_cmp}
use Rattle.std.proofs.lemmas.List.Sorted.{answers_always, ranks_by}
use Rattle.dr_answers.proofs.StableOrder.{in_order-sorted}
use Rattle.dr_scan.specs.declared.row_place.RowPlace.{RowPlace}
use Rattle.dr_scan.proofs.placing.descending.Goals as goal

pub returns : goal.returns
returns c =
    let cmp = (λ (a : RowPlace) (b : RowPlace). int_cmp b.time a.time) in
    let total = (back_total (on_total (λ (p : RowPlace). p.time) int_cmp_total)) in
    let up = c.in_ok-sort_by.ensures.sorted (λ a b. is_lt (cmp a b)) (ranks_by total (λ (p : RowPlace). p)) (answers_always _ _ _ (λ f a r g h. search rules)) in
    let stable = c.in_ok-sort_by.ensures.stable (λ a b. is_lt (cmp a b)) (ranks_by total (λ (p : RowPlace). p)) (answers_always _ _ _ (λ f a r g h. search rules)) in
    in_order-sorted cmp total c.args.places.items c.sort_by.new.self.items up stable
