use Rattle.std.proofs.Common.{◌≡◌, ◌∙◌, sym, ap, inl, inr, string_bytes}
use Rattle.std.specs.Map.{lookup}
use Rattle.std.specs.BTreeMap.{is_at, get_by_text}
use Rattle.std.specs.Ordering.{nat_cmp}
use Rattle.std.specs.Cmp.Lexicographic.{slice_cmp}
use Rattle.dr_dict.specs.TextPlaces.{text_hash}
use Rattle.dr_dict.proofs.FarTexts.{put-found, others-found}
use Rattle.dr_dict.proofs.text_places.TextPlaces.put.Goals as goal

pub returns-clause-put : goal.returns-clause-put
returns-clause-put c =
    let copy = c.in_ok-from_str.field-0 in
    let same : string_bytes copy ≡ c.args.text.now = c.in_ok-from_str.ensures.ok in
    inr (ap (get_by_text c.insert.new.self) (sym same) ∙ ap (lookup (is_at (λ k. slice_cmp nat_cmp (string_bytes copy) (string_bytes k)))) c.in_ok-insert.ensures.entries ∙ put-found string_bytes c.args.self.now.far.entries copy c.args.place)

pub returns-clause-kept : goal.returns-clause-kept
returns-clause-kept c = λ other at apart found.
    let copy = c.in_ok-from_str.field-0 in
    let same : string_bytes copy ≡ c.args.text.now = c.in_ok-from_str.ensures.ok in
    elim found [
      | inl near ↦ inl (c.put.ensures.kept (text_hash other) at near)
      | inr far ↦ inr (ap (lookup (is_at (λ k. slice_cmp nat_cmp other (string_bytes k)))) c.in_ok-insert.ensures.entries ∙ others-found string_bytes c.args.self.now.far.entries copy c.args.place other (λ h. apart (h ∙ same)) ∙ far)
    ]
