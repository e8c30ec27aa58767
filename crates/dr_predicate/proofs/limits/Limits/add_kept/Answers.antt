use Rattle.std.proofs.Common.{◌∙◌, sym, ap, ◌||◌, bytes_eq, true}
use Rattle.std.specs.List.{list_any}
use Rattle.dr_base.proofs.Truths.{and_true}
use Rattle.dr_dict.proofs.AddedTexts.{found-added}
use Rattle.dr_predicate.proofs.Dimensions.{same_asked}
use Rattle.dr_predicate.specs.Asked.{lets_through}
use Rattle.dr_predicate.proofs.limits.Limits.add_kept.Goals as goal

pub returns-in_ok-add : goal.returns-in_ok-add
returns-in_ok-add c = λ value.
    let told = c.in_ok-add.ensures in
    let kept = c.args.kept.now in
    let text = c.args.text.now in
    let limits = c.args.self.now in
    found-added kept c.add-then-let_through.new.self c.in_ok-from_str.field-0 value c.in_ok-add.field-0 told.is_new told.added told.same
    ∙ ap (λ t. list_any (bytes_eq value) kept || bytes_eq value t) c.in_ok-from_str.ensures
    ∙ ap (λ b. list_any (bytes_eq value) kept || b) (sym (same_asked (lets_through limits) text value true (sym c.let_through.ensures ∙ c.if-let_through.true) ∙ and_true (bytes_eq value text)))
