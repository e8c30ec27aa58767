use Rattle.std.proofs.Common.{◌≡◌, ◌∙◌, sym, ap, ◌∷◌, ◌||◌, ◌+◌, map, string_bytes, bytes_eq, drop}
use Rattle.std.specs.List.{list_any}
use Rattle.std.proofs.lemmas.List.{drop_more}
use Rattle.dr_base.proofs.Truths.{or_regroups}
use Rattle.dr_predicate.specs.Match.{some_within}
use Rattle.dr_predicate.proofs.joining.put_all.Goals as goal

pub loop-text-preserved : goal.loop-text-preserved
loop-text-preserved c = λ other.
    let texts = c.args.texts.now in
    let i = c.loop-text.text-index in
    let text = c.text-item.result in
    let old = c.loop-text.ranges.items in
    let rest = drop (i + 1) texts in
    let among = list_any (bytes_eq other) (map string_bytes rest) in
    let split : drop i texts ≡ text ∷ rest = drop_more texts i text c.loop-text-test.true ∙ ap (λ t. t ∷ rest) (sym c.text-item.is) in
    ap (λ b. b || among) (c.in_ok-put_text.ensures other)
    ∙ sym (or_regroups (some_within old other) (bytes_eq other c.as_str.result.now) among)
    ∙ ap (λ s. some_within old other || (bytes_eq other s || among)) c.as_str.ensures.value
    ∙ ap (λ l. some_within old other || list_any (bytes_eq other) (map string_bytes l)) (sym split)
    ∙ c.loop-text.invariant other
