use Rattle.std.proofs.Common.{◌≡◌, ◌∙◌, sym, ap, ℕ, ◌+◌, ◌-◌, ◌<◌, length, arith, true, false, [], ◌∷◌, ◌++◌}
use Rattle.std.specs.Ordering.{is_eq}
use Rattle.std.proofs.lemmas.Option.{slice_get-get_or}
use Rattle.dr_base.specs.declared.row.Row.{Row}
use Rattle.dr_base.specs.Order.{key_cmp}
use Rattle.dr_agg.specs.Combination.{combine_columns}
use Rattle.dr_merge.proofs.Adding.{added_first, added_behind, added_into}
use Rattle.dr_merge.proofs.combining.add_last.Goals as goal

pub returns-then-len-eq0 : goal.returns-then-len-eq0
returns-then-len-eq0 c =
    let none : length c.args.rows.now.items ≡ 0 = omega (arith, c.if-len-eq0.true, c.len-len.ensures) in
    c.in_ok-push.ensures.items ∙ ap (λ (x : Row). c.args.rows.now.items ++ x ∷ []) c.in_ok-copy.ensures ∙ added_first c.args.kinds.now c.args.rows.now.items c.args.row.now none

pub returns-then-not-has_key_of : goal.returns-then-not-has_key_of
returns-then-not-has_key_of c =
    let i : ℕ = c.len-len.result - 1 in
    let len : i + 1 ≡ length c.args.rows.now.items = omega (arith, c.if-len-eq0.false, c.len-len.ensures) in
    let differs : is_eq (key_cmp c.args.row.now.key c.index.result.now.key) ≡ false = sym c.has_key_of.ensures ∙ c.if-not-has_key_of.true in
    c.in_ok-push-2.ensures.items ∙ ap (λ (x : Row). c.args.rows.now.items ++ x ∷ []) c.in_ok-copy-2.ensures
    ∙ added_behind c.args.kinds.now c.args.rows.now.items c.args.row.now c.index.result.now i len c.index.ensures c.requires.rising c.requires.behind differs

pub returns : goal.returns
returns c =
    let rows = c.args.rows.now.items in
    let i : ℕ = c.len-len.result - 1 in
    let l : Row = c.index.result.now in
    let m : Row = c.index_mut-last.result.now in
    let len : i + 1 ≡ length rows = omega (arith, c.if-len-eq0.false, c.len-len.ensures) in
    let lt : i < length rows = omega arith in
    let at = slice_get-get_or rows i l lt in
    let at' = slice_get-get_or rows i m lt in
    let first = c.index.ensures in
    let last = c.index_mut-last.ensures.value in
    let one : l ≡ m = cc in
    let same : is_eq (key_cmp c.args.row.now.key m.key) ≡ true = ap (λ (x : Row). is_eq (key_cmp c.args.row.now.key x.key)) (sym one) ∙ sym c.has_key_of.ensures ∙ c.if-not-has_key_of.false in
    let metrics : c.combine_into.new.into ≡ combine_columns c.args.kinds.now m.metrics c.args.row.now.metrics = c.in_ok-combine_into.ensures.ok ∙ ap (combine_columns c.args.kinds.now m.metrics) c.in_ok-metrics.ensures in
    added_into c.args.kinds.now rows c.args.row.now m _ i len last c.requires.rising c.requires.behind same (λ j. record { key = m.key; metrics = metrics j })
