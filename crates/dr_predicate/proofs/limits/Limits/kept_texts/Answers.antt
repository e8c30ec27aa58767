use Rattle.std.proofs.Common.{◌≡◌, ◌∙◌, sym, ap, ◌∷◌, ◌||◌, ◌&&◌, ◌+◌, map, string_bytes, bytes_eq, drop}
use Rattle.std.specs.List.{list_any}
use Rattle.std.proofs.lemmas.List.{drop_more}
use Rattle.dr_predicate.proofs.Dimensions.{one_more_let}
use Rattle.dr_predicate.specs.Asked.{lets_through}
use Rattle.dr_predicate.proofs.limits.Limits.kept_texts.Goals as goal

pub loop-text-preserved : goal.loop-text-preserved
loop-text-preserved c = λ other.
    let texts = c.args.texts.now in
    let i = c.loop-text.text-index in
    let text = c.text-item.result in
    let old = c.loop-text.kept in
    let lets = lets_through c.args.self.now other in
    let rest = drop (i + 1) texts in
    let among = list_any (bytes_eq other) (map string_bytes rest) in
    let split : drop i texts ≡ text ∷ rest = drop_more texts i text c.loop-text-test.true ∙ ap (λ t. t ∷ rest) (sym c.text-item.is) in
    ap (λ b. b || (among && lets)) (c.in_ok-add_kept.ensures other)
    ∙ one_more_let (list_any (bytes_eq other) old) (bytes_eq other c.as_str.result.now) lets among
    ∙ ap (λ s. list_any (bytes_eq other) old || ((bytes_eq other s || among) && lets)) c.as_str.ensures.value
    ∙ ap (λ l. list_any (bytes_eq other) old || (list_any (bytes_eq other) (map string_bytes l) && lets)) (sym split)
    ∙ c.loop-text.invariant other
