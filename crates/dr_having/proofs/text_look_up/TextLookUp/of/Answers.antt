use Rattle.std.proofs.Common.{◌∙◌, ap, ◌||◌, bytes_eq}
use Rattle.std.specs.List.{list_any}
use Rattle.dr_dict.proofs.AddedTexts.{found-added}
use Rattle.dr_outputs.specs.Numbered.{text_at}
use Rattle.dr_having.proofs.text_look_up.TextLookUp.of.Goals as goal

pub returns : goal.returns
returns c = λ dims.
    let value = text_at c.args.condition.now.place dims in
    found-added c.new-texts.result c.add.new.self c.args.condition.now.value value c.in_ok-add.field-0 c.in_ok-add.ensures.is_new c.in_ok-add.ensures.added c.in_ok-add.ensures.same
    ∙ ap (λ l. list_any (bytes_eq value) l || bytes_eq value c.args.condition.now.value) c.new-texts.ensures
