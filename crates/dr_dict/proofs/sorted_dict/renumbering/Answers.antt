use Rattle.std.proofs.Common.{◌≡◌, ◌∙◌, ◌≤◌, ◌<◌, sym, arith, map, take, length, get_or, subst, slice_get, Some}
use Rattle.std.proofs.lemmas.List.{take_all}
use Rattle.dr_dict.specs.Sorted.{IsSortedOf, IsRenumbering}
use Rattle.dr_dict.proofs.SortedTexts.{sorted-contains, place-fits, places_pushed, sorted-unique, take-one_more}
use Rattle.dr_dict.proofs.sorted_dict.renumbering.Goals as goal

pub place_of-requires-clause-there : goal.place_of-requires-clause-there
place_of-requires-clause-there c =
    let sorted : IsSortedOf c.args.dict.now.texts (map (λ t. t.now) c.sorted.inside.texts.items) = subst (IsSortedOf c.args.dict.now.texts) (sym c.sorted.view_is) c.in_ok-sorted.ensures in
    let lt : c.loop-text.text-index < length c.args.dict.now.texts = rw (← c.as_slice-texts.ensures) c.loop-text-test.true in
    let at : get_or c.args.dict.now.texts c.loop-text.text-index c.text-item.result ≡ c.text-item.result = rw (← c.as_slice-texts.ensures) (sym c.text-item.is) in
    rw (c.deref.ensures.value, c.as_str.ensures) (sorted-contains c.args.dict.now.texts _ sorted c.text-item.result c.loop-text.text-index lt at)

pub overflow_cast-place_of : goal.overflow_cast-place_of
overflow_cast-place_of c =
    let sorted : IsSortedOf c.args.dict.now.texts (map (λ t. t.now) c.sorted.inside.texts.items) = subst (IsSortedOf c.args.dict.now.texts) (sym c.sorted.view_is) c.in_ok-sorted.ensures in
    let few : length c.args.dict.now.texts ≤ 16777216 = omega (arith, c.len.ensures.len, c.len.ensures.few) in
    let at = rw c.deref.ensures.value at c.place_of.ensures in
    place-fits c.args.dict.now.texts _ sorted few _ c.place_of.result at

pub loop-text-preserved : goal.loop-text-preserved
loop-text-preserved c =
    let at = rw (c.deref.ensures.value, c.as_str.ensures) at c.place_of.ensures in
    rw (c.in_ok-push.ensures.items, take-one_more c.as_slice-texts.result.now c.loop-text.text-index c.text-item.result c.loop-text-test.true c.text-item.is)
    (places_pushed (λ t p. slice_get (map (λ u. u.now) c.sorted.inside.texts.items) p ≡ Some t) (take c.loop-text.text-index c.as_slice-texts.result.now) c.loop-text.places.items c.text-item.result c.place_of.result c.loop-text.invariant at)

pub returns : goal.returns
returns c = λ sorted is.
    let own : IsSortedOf c.args.dict.now.texts (map (λ t. t.now) c.sorted.inside.texts.items) = subst (IsSortedOf c.args.dict.now.texts) (sym c.sorted.view_is) c.in_ok-sorted.ensures in
    let all : take c.loop-text.text-index c.as_slice-texts.result.now ≡ c.args.dict.now.texts = take_all c.loop-text.text-index c.as_slice-texts.result.now c.loop-text-test.false ∙ c.as_slice-texts.ensures in
    rw (sorted-unique c.args.dict.now.texts sorted _ c.len.ensures.distinct is own) (subst (λ ts. IsRenumbering ts (map (λ t. t.now) c.sorted.inside.texts.items) c.loop-text.places.items) all c.loop-text.invariant)
