use Rattle.std.proofs.Common.{◌≡◌, ◌∙◌, sym, refl, ap, ◌∷◌, ◌||◌, ◌&&◌, ◌+◌, map, string_bytes, bytes_eq, drop}
use Rattle.std.specs.List.{list_any}
use Rattle.std.proofs.lemmas.List.{drop_more}
use Rattle.dr_dict.proofs.AddedTexts.{found-held}
use Rattle.dr_dict.proofs.adding.add_held.Goals as goal

pub loop-text-preserved : goal.loop-text-preserved
loop-text-preserved c = λ other.
    let texts = c.args.texts.now in
    let held = c.args.held.now in
    let i = c.loop-text.text-index in
    let text = c.text-item.result in
    let old = c.loop-text.both in
    let rest = drop (i + 1) texts in
    let among = list_any (bytes_eq other) (map string_bytes rest) in
    let split : drop i texts ≡ text ∷ rest = drop_more texts i text c.loop-text-test.true ∙ ap (λ t. t ∷ rest) (sym c.text-item.is) in
    ap (λ b. b || (list_any (bytes_eq other) held && among)) (c.in_ok-add_if_held.ensures other)
    ∙ found-held held c.as_str.result.now other (list_any (bytes_eq other) old) among (list_any (bytes_eq c.as_str.result.now) held) refl
    ∙ ap (λ s. list_any (bytes_eq other) old || (list_any (bytes_eq other) held && (bytes_eq other s || among))) c.as_str.ensures.value
    ∙ ap (λ l. list_any (bytes_eq other) old || (list_any (bytes_eq other) held && list_any (bytes_eq other) (map string_bytes l))) (sym split)
    ∙ c.loop-text.invariant other
