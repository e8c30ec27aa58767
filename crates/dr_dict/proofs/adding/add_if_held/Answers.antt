use Rattle.std.proofs.Common.{◌∙◌, sym, ap, ◌||◌, ◌&&◌, bytes_eq}
use Rattle.std.specs.List.{list_any}
use Rattle.dr_base.proofs.Truths.{and_true}
use Rattle.dr_dict.proofs.AddedTexts.{found-added}
use Rattle.dr_dict.proofs.adding.add_if_held.Goals as goal

pub returns-in_ok-add_str : goal.returns-in_ok-add_str
returns-in_ok-add_str c = λ value.
    let told = c.in_ok-add_str.ensures in
    let text = c.args.text.now in
    found-added c.args.both.now c.add_str.new.self text value c.in_ok-add_str.field-0 told.is_new told.added told.same
    ∙ ap (λ b. list_any (bytes_eq value) c.args.both.now || b) (sym (ap (λ h. bytes_eq value text && h) (sym c.contains.ensures ∙ c.if-contains.true) ∙ and_true (bytes_eq value text)))
