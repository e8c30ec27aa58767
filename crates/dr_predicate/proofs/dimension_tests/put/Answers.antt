use Rattle.std.proofs.Common.{◌∙◌, ap, ◌&&◌, ◌∷◌, []}
use Rattle.std.specs.List.{list_all}
use Rattle.std.proofs.lemmas.List.Folds.{list_all-append}
use Rattle.dr_base.specs.Told.{told}
use Rattle.dr_base.proofs.Truths.{and_ends}
use Rattle.dr_predicate.proofs.Dimensions.{asked-there}
use Rattle.dr_predicate.specs.Asked.{asked_at, IsAskedAt}
use Rattle.dr_predicate.specs.Match.{passes, value_at}
use Rattle.dr_predicate.proofs.dimension_tests.put.Goals as goal

pub returns-in-Some : goal.returns-in-Some
returns-in-Some c = λ dims.
    let asked = c.args.asked.now.items in
    let at : IsAskedAt asked c.in-Some.i c.args.place = rw (← c.as_slice.ensures.value) c.in-Some.ensures in
    asked-there asked c.in-Some.i c.index_mut-there.result.now c.add.new.self c.args.place (λ value. told c.args.holds (passes c.args.test value)) at c.index_mut-there.ensures.value c.in_ok-add.ensures dims

pub returns : goal.returns
returns c = λ dims.
    let asked = c.args.asked.now.items in
    let value = value_at c.args.place dims in
    let more = told c.args.holds (passes c.args.test value) in
    ap (list_all (asked_at dims)) c.in_ok-push.ensures.items
    ∙ list_all-append (asked_at dims) asked (record { place = c.args.place; tests = c.add-2.new.self } ∷ [])
    ∙ and_ends (list_all (asked_at dims) asked) (asked_at dims (record { place = c.args.place; tests = c.add-2.new.self }))
    ∙ ap (λ b. list_all (asked_at dims) asked && b) (c.in_ok-add-2.ensures value ∙ ap (λ b. b && more) (c.new-tests.ensures value))
