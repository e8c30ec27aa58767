use Rattle.std.proofs.Common.{◌≡◌, ◌∙◌, sym, ap, length, [], ◌∷◌, ◌++◌}
use Rattle.std.specs.Prelude.{if◌then◌else◌}
use Rattle.dr_ask.specs.Firsts.{number_in, is_same_aggregation}
use Rattle.dr_ask.proofs.Firsts.{is_new, is_known}
use Rattle.dr_ask.proofs.aggregations.numbered.Goals as goal

pub returns-in_ok-push-clause-ok : goal.returns-in_ok-push-clause-ok
returns-in_ok-push-clause-ok c =
    let ys = c.args.distinct.now.items in
    let x = c.args.aggregation.now in
    let s = c.as_slice.ensures.value in
    let len : c.len.result ≡ length ys = c.len.ensures ∙ sym c.as_slice.ensures.len ∙ ap length s in
    let number : number_in is_same_aggregation ys x ≡ length ys = ap (λ l. number_in is_same_aggregation l x) (sym s) ∙ sym c.number_in-number.ensures ∙ c.if-number-len.true ∙ len in
    c.in_ok-push.ensures.items ∙ ap (λ d. ys ++ d ∷ []) c.in_ok-copy.ensures ∙ ap (λ b. if b then ys else ys ++ x ∷ []) (sym (is_new is_same_aggregation ys x number))

pub returns-else-number-len-clause-ok : goal.returns-else-number-len-clause-ok
returns-else-number-len-clause-ok c =
    let ys = c.args.distinct.now.items in
    let x = c.args.aggregation.now in
    let s = c.as_slice.ensures.value in
    let len : c.len.result ≡ length ys = c.len.ensures ∙ sym c.as_slice.ensures.len ∙ ap length s in
    let known = is_known is_same_aggregation ys x (λ e. c.if-number-len.false (c.number_in-number.ensures ∙ ap (λ l. number_in is_same_aggregation l x) s ∙ e ∙ sym len)) in
    ap (λ b. if b then ys else ys ++ x ∷ []) (sym known)
