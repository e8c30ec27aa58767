use Rattle.std.proofs.Common.{◌≡◌, ◌∙◌, refl, sym, ap, ℕ, List, Option, None, Some, is_some, IfSome, map, string_bytes, slice_get, subst, bytes_eq}
use Rattle.std.specs.List.{list_any}
use Rattle.dr_dict.proofs.PlacedTexts.{there-any, none-any}
use Rattle.dr_dict.proofs.text_set.TextSet.contains.Goals as goal

told : (texts : List (List ℕ)) (text : List ℕ) (found : Option ℕ) → IfSome found (λ place. slice_get texts place ≡ Some text) → (found ≡ None → (place : ℕ) → slice_get texts place ≡ Some text → ⊥) → is_some found ≡ list_any (bytes_eq text) texts
told texts text None at none = sym (none-any texts text (none refl))
told texts text (Some place) at none = sym (there-any texts text place at)

pub returns : goal.returns
returns c =
    let texts = c.self.inside.texts.items in
    let same = c.as_slice-texts.ensures.value in
    let told_so = told (map string_bytes texts) c.args.text.now c.find.result
    (subst (λ l. IfSome c.find.result (λ place. slice_get (map string_bytes l) place ≡ Some c.args.text.now)) same c.find.ensures.found)
    (λ none place at. c.find.ensures.none none place (c.self.invariant place c.args.text.now at) (subst (λ l. slice_get (map string_bytes l) place ≡ Some c.args.text.now) (sym same) at)) in
    c.is_some.ensures ∙ told_so ∙ ap (list_any (bytes_eq c.args.text.now)) c.self.view_is
