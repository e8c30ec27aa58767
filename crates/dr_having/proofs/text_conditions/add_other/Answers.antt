use Rattle.std.proofs.Common.{◌∙◌, sym, ap, ◌||◌, ◌&&◌, not, bytes_eq}
use Rattle.std.specs.List.{list_any}
use Rattle.dr_base.proofs.Truths.{and_true}
use Rattle.dr_dict.proofs.AddedTexts.{found-added}
use Rattle.dr_having.proofs.text_conditions.add_other.Goals as goal

pub returns : goal.returns
returns c = λ value.
    let told = c.in_ok-add.ensures in
    let text = c.in_ok-from_str.field-0 in
    found-added c.args.left.now c.add-2.new.self text value c.in_ok-add.field-0 told.is_new told.added told.same
    ∙ (λ k. list_any (bytes_eq value) c.args.left.now || bytes_eq value (c.in_ok-from_str.ensures k))
    ∙ ap (λ b. list_any (bytes_eq value) c.args.left.now || b)
    (sym (ap (λ h. bytes_eq value c.args.text.now && not h) (sym c.contains.ensures ∙ c.if-contains.false) ∙ and_true (bytes_eq value c.args.text.now)))
