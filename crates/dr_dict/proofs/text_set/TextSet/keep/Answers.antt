use Rattle.std.proofs.Common.{◌≡◌, ◌∙◌, sym, ap, List, ℕ, subst, map, string_bytes, take, slice_get, Some}
use Rattle.std.proofs.lemmas.List.{take-map}
use Rattle.dr_dict.proofs.PlacedTexts.{in-front}
use Rattle.dr_dict.proofs.text_set.TextSet.keep.Goals as goal

pub invariant_of-self : goal.invariant_of-self
invariant_of-self c = λ i text at.
    let texts = c.self.inside.texts.items in
    let first : map string_bytes c.truncate.new.self.items ≡ take c.args.count (map string_bytes texts) = ap (map string_bytes) c.truncate.ensures.items ∙ sym (take-map string_bytes c.args.count texts) in
    c.self.invariant i text (in-front c.args.count (map string_bytes texts) text i (subst (λ (l : List (List ℕ)). slice_get l i ≡ Some text) first at))

pub returns : goal.returns
returns c = ap (map string_bytes) c.truncate.ensures.items ∙ sym (take-map string_bytes c.args.count c.self.inside.texts.items) ∙ ap (take c.args.count) c.self.view_is
