use Rattle.std.proofs.Common.{◌≡◌, ◌∙◌, sym, ap, ◌∷◌, ◌||◌, ◌&&◌, ◌+◌, not, map, string_bytes, bytes_eq, drop}
use Rattle.std.specs.List.{list_any}
use Rattle.std.proofs.lemmas.List.{drop_more, drop_all}
use Rattle.dr_base.proofs.Truths.{or_false}
use Rattle.dr_having.proofs.Collecting.{found-other}
use Rattle.dr_having.proofs.text_conditions.without.Goals as goal

pub loop-text-init : goal.loop-text-init
loop-text-init c = λ value. let others = c.args.others.now in
    (λ k. list_any (bytes_eq value) (c.new-left.ensures k) || (list_any (bytes_eq value) (c.as_texts-text-items.ensures k) && not (list_any (bytes_eq value) others)))

pub loop-text-preserved : goal.loop-text-preserved
loop-text-preserved c = λ value.
    let texts = c.as_texts-text-items.result.now in
    let others = c.args.others.now in
    let i = c.loop-text.text-index in
    let text = c.text-item.result in
    let rest = drop (i + 1) texts in
    let among = list_any (bytes_eq value) (map string_bytes rest) in
    let before = list_any (bytes_eq value) c.loop-text.left in
    let split : drop i texts ≡ text ∷ rest = drop_more texts i text c.loop-text-test.true ∙ ap (λ t. t ∷ rest) (sym c.text-item.is) in
    ap (λ b. b || (among && not (list_any (bytes_eq value) others))) (c.in_ok-add_other.ensures value)
    ∙ found-other others c.as_str.result.now value before among
    ∙ (λ k. before || ((bytes_eq value (c.as_str.ensures.value k) || among) && not (list_any (bytes_eq value) others)))
    ∙ (λ k. before || (list_any (bytes_eq value) (map string_bytes (sym split k)) && not (list_any (bytes_eq value) others)))
    ∙ c.loop-text.invariant value

pub returns : goal.returns
returns c = λ value.
    let none = drop_all c.loop-text.text-index c.as_texts-text-items.result.now c.loop-text-test.false in
    sym (or_false (list_any (bytes_eq value) c.loop-text.left))
    ∙ sym (λ k. list_any (bytes_eq value) c.loop-text.left || (list_any (bytes_eq value) (map string_bytes (none k)) && not (list_any (bytes_eq value) c.args.others.now)))
    ∙ c.loop-text.invariant value
