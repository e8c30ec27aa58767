use Rattle.dr_dict.proofs.AddedTexts.{found-added}
use Rattle.dr_predicate.proofs.asked_texts.add_texts.Goals as goal

pub returns-in_ok-add-in-One : goal.returns-in_ok-add-in-One
returns-in_ok-add-in-One c = λ value.
    let told = c.in_ok-add-in-One.ensures in
    rw c.in-One.is (found-added c.args.texts.now c.add.new.self c.in-One.text value c.in_ok-add-in-One.field-0 told.is_new told.added told.same)
