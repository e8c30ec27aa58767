use Rattle.std.proofs.Common.{inl, inr, ◌≡◌, ◌∙◌, ◌+◌, ◌-◌, ◌<◌, ◌++◌, ◌∷◌, [], ℕ, Bool, sym, ap, subst, length, take, get_or, arith}
use Rattle.std.proofs.lemmas.Bool.{cases_Bool}
use Rattle.std.proofs.lemmas.List.{take_more, take_all, length-map, get_or_default}
use Rattle.dr_predicate.specs.Match.{passes}
use Rattle.dr_rowindex.specs.Orders.{AreAll}
use Rattle.dr_rowindex.proofs.RowLemmas.{row-within}
use Rattle.dr_rowindex.proofs.PutLemmas.{adds-where, PutWhere, where-passed, where-failed}
use Rattle.dr_rowindex.proofs.text_order.TextOrder.insert_passing.Goals as goal

pub insert_if-requires : goal.insert_if-requires
insert_if-requires c =
    let rows = c.rows-rows.result.now in
    let all = subst AreAll (sym c.rows-rows.ensures.value) c.rows-rows.ensures.all in
    let texts = c.self.inside.texts.items in
    let own : length c.args.self.now ≡ length rows = sym (ap length c.self.view_is) ∙ length-map texts (λ t. t.now) ∙ sym c.self.invariant.0 ∙ ap length (sym c.rows-rows.ensures.value) in
    let long : length c.loop-k.set ≡ length rows = c.loop-k.invariant.1.count ∙ c.requires ∙ own in
    subst (λ n. get_or rows c.loop-k.k 0 < n) (sym long) (row-within rows all c.loop-k.k 0 c.loop-k-test.true)

pub loop-k-preserved : goal.loop-k-preserved
loop-k-preserved c =
    let rows = c.rows-rows.result.now in
    let texts = c.args.self.now in
    let k = c.loop-k.k in
    let test : ℕ → Bool = λ r. passes c.args.test.now (get_or texts r []) in
    let r = get_or rows k 0 in
    let set = c.loop-k.set in
    let lt = c.loop-k-test.true in
    let seen = rw (c.as_slice-texts.ensures.value, c.self.view_is) at c.passes_at-passed.ensures in
    let more = take_more rows k r lt ∙ ap (λ x. take k rows ++ x ∷ []) (sym (get_or_default rows k 0 r lt)) in
    let all = subst AreAll (sym c.rows-rows.ensures.value) c.rows-rows.ensures.all in
    let own : length texts ≡ length rows = sym (ap length c.self.view_is) ∙ length-map c.self.inside.texts.items (λ t. t.now) ∙ sym c.self.invariant.0 ∙ ap length (sym c.rows-rows.ensures.value) in
    let long : length set ≡ length rows = c.loop-k.invariant.1.count ∙ c.requires ∙ own in
    let row : r < length set = subst (λ n. r < n) (sym long) (row-within rows all k 0 lt) in (
      (λ d lt'. let at : k ≡ k + 1 - 1 = omega arith in seen d ∙ ap (λ j. test (get_or rows j d)) at),
      elim (cases_Bool c.passes_at-passed.result) [
        | inl passed ↦ (subst (PutWhere test (take (k + 1) rows) c.args.set.now) (sym (c.insert_if.ensures.passed passed))
            (where-passed test (take k rows) (take (k + 1) rows) r c.args.set.now set more c.loop-k.invariant.1 (sym (seen 0) ∙ passed) row))
        | inr fails ↦ (subst (PutWhere test (take (k + 1) rows) c.args.set.now) (sym (c.insert_if.ensures.failed fails))
            (where-failed test (take k rows) (take (k + 1) rows) r c.args.set.now set more c.loop-k.invariant.1 (sym (seen 0) ∙ fails)))
      ],
    )

pub returns : goal.returns
returns c =
    let rows = c.rows-rows.result.now in
    let texts = c.args.self.now in
    let test : ℕ → Bool = λ r. passes c.args.test.now (get_or texts r []) in
    let all = subst AreAll (sym c.rows-rows.ensures.value) c.rows-rows.ensures.all in
    let own : length texts ≡ length rows = sym (ap length c.self.view_is) ∙ length-map c.self.inside.texts.items (λ t. t.now) ∙ sym c.self.invariant.0 ∙ ap length (sym c.rows-rows.ensures.value) in
    adds-where [] texts (passes c.args.test.now) rows all (sym own) c.args.set.now c.loop-k.set
    (subst (λ l. PutWhere test l c.args.set.now c.loop-k.set) (take_all c.loop-k.k rows c.loop-k-test.false) c.loop-k.invariant.1)
