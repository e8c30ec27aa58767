use Rattle.std.proofs.Common.{◌≤◌, subst, bytes_eq, string_bytes, length, map, arith}
use Rattle.std.proofs.lemmas.List.{length-map}
use Rattle.dr_rowindex.proofs.AddLemmas.{one-more, all-of, mapped-at}
use Rattle.dr_rowindex.proofs.text_order.TextOrder.insert_among.Goals as goal

pub loop-text-preserved : goal.loop-text-preserved
loop-text-preserved c =
    let at = mapped-at string_bytes c.as_texts-text-items.result.now c.args.texts.now c.loop-text.text-index c.text-item.result c.as_str.result.now c.as_texts-text-items.ensures c.loop-text-test.true c.text-item.is c.as_str.ensures.value in
    one-more c.args.self.now (λ t value. bytes_eq value t) c.args.texts.now c.loop-text.text-index c.as_str.result.now c.args.set.now c.loop-text.set c.insert_equal.new.set at.0 at.1
    c.loop-text.invariant c.in_ok-insert_equal.ensures

pub returns : goal.returns
returns c =
    let items = c.as_texts-text-items.result.now in
    let whole : length (map string_bytes items) ≤ c.loop-text.text-index = omega (arith, length-map items string_bytes, c.loop-text-test.false) in
    all-of c.args.self.now (λ t value. bytes_eq value t) c.args.texts.now c.loop-text.text-index c.args.set.now c.loop-text.set
    (subst (λ l. length l ≤ c.loop-text.text-index) c.as_texts-text-items.ensures whole) c.loop-text.invariant
