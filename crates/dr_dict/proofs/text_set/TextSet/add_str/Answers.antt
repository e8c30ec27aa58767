use Rattle.std.proofs.Common.{◌≡◌, ◌∙◌, sym, ap, subst, ℕ, false, List, [], ◌∷◌, ◌++◌, length, map, string_bytes, bytes_eq, rules}
use Rattle.std.specs.List.{list_any}
use Rattle.std.proofs.lemmas.List.{map-append, length-map}
use Rattle.dr_dict.specs.TextPlaces.{IsFoundAt, AreFound}
use Rattle.dr_dict.proofs.PlacedTexts.{found-still, found-more}
use Rattle.dr_dict.proofs.text_set.TextSet.add_str.Goals as goal

pub invariant_of-self-in_err-put : goal.invariant_of-self-in_err-put
invariant_of-self-in_err-put c =
    let texts = map string_bytes c.self.inside.texts.items in
    let new : list_any (bytes_eq c.args.text.now) texts ≡ false = ap (list_any (bytes_eq c.args.text.now)) c.self.view_is ∙ sym c.contains.ensures ∙ c.if-contains.false in
    let same : c.reserve.new.self.items ≡ c.self.inside.texts.items = search rules in
    subst (λ l. AreFound c.put.new.self (map string_bytes l)) (sym same) (found-still c.self.inside.places c.put.new.self texts c.args.text.now c.put.ensures.kept new c.self.invariant)

pub invariant_of-self-2 : goal.invariant_of-self-2
invariant_of-self-2 c =
    let texts = map string_bytes c.self.inside.texts.items in
    let new : list_any (bytes_eq c.args.text.now) texts ≡ false = ap (list_any (bytes_eq c.args.text.now)) c.self.view_is ∙ sym c.contains.ensures ∙ c.if-contains.false in
    let same : c.reserve.new.self.items ≡ c.self.inside.texts.items = search rules in
    let behind : c.len.result ≡ length texts = search (same, rules) ∙ sym (length-map c.self.inside.texts.items string_bytes) in
    let last = subst (IsFoundAt c.put.new.self c.args.text.now) behind c.in_ok-put.ensures.put in
    let all : c.push.new.self.items ≡ c.self.inside.texts.items ++ c.in_ok-copy.copy ∷ [] = search (same, rules) in
    let texts-then : map string_bytes c.push.new.self.items ≡ texts ++ c.args.text.now ∷ [] = ap (map string_bytes) all ∙ map-append string_bytes c.self.inside.texts.items (c.in_ok-copy.copy ∷ []) ∙ ap (λ t. texts ++ t ∷ []) c.in_ok-copy.ensures.ok in
    subst (λ (l : List (List ℕ)). AreFound c.put.new.self l) (sym texts-then) (found-more c.put.new.self texts c.args.text.now (found-still c.self.inside.places c.put.new.self texts c.args.text.now c.put.ensures.kept new c.self.invariant) last)
