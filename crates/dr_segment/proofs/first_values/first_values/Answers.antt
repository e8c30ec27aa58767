use Rattle.std.proofs.Common.{◌≡◌, ◌∙◌, sym, refl, ap, map, take, length, List, ℕ, [], ◌++◌, ◌∷◌, arith, true≢false, is_some, slice_get}
use Rattle.std.proofs.lemmas.List.{length-append}
use Rattle.dr_image.specs.Image.{values_of}
use Rattle.dr_segment.specs.Columns.{AreFirsts}
use Rattle.dr_segment.proofs.ColumnLemmas.{values_more}
use Rattle.dr_segment.proofs.RankingLemmas.{firsts_none, firsts_more}
use Rattle.dr_segment.proofs.first_values.first_values.Goals as goal

firsts_by : (texts texts' : List (List ℕ)) (places places' : List ℕ) (values values' : List (List ℕ)) → texts' ≡ texts → places' ≡ places → values' ≡ values → AreFirsts texts places values → AreFirsts texts' places' values'
firsts_by texts texts' places places' values values' a b v firsts = record {
  distinct = record { distinct = rw a firsts.distinct.distinct; alike = λ t. rw (a, v) (firsts.distinct.alike t) };
  each = rw (a, b, v) firsts.each;
}

pub loop-row-init : goal.loop-row-init
loop-row-init c = record {
  values = firsts_by [] _ [] _ [] [] (ap (map (λ t. t.now)) c.new-texts.ensures.items) c.in_ok-places.ensures.items refl firsts_none;
  few = omega (arith, ap length c.new-texts.ensures.items);
  long = ap length c.in_ok-places.ensures.items;
  found = λ i text at. absurd (true≢false (sym (ap is_some at) ∙ ap (λ texts. is_some (slice_get (map (λ t. t.now) texts) i)) c.new-texts.ensures.items));
}

pub loop-row-preserved : goal.loop-row-preserved
loop-row-preserved c =
    let i = c.loop-row.row-index in
    let rows = c.args.rows.now in
    let before = c.loop-row.places.items in
    let more = values_more c.args.d i rows c.row-item.result c.loop-row-test.true c.row-item.is in
    let text = c.as_str.ensures ∙ c.value.ensures in
    let place = c.in_ok-place.place in
    record {
      values = firsts_by _ _ _ _ _ _ refl c.in_ok-push.ensures.items (more ∙ ap (λ (v : List ℕ). values_of c.args.d (take i rows) ++ v ∷ []) (sym text))
          (firsts_more _ _ (values_of c.args.d (take i rows)) before c.as_str.result.now place c.in_ok-place.ensures.added c.in_ok-place.ensures.place c.loop-row.invariant.values);
      few = omega (arith, c.in_ok-place.ensures.few, c.loop-row.invariant.few);
      long = omega (arith, ap length c.in_ok-push.ensures.items, length-append before (place ∷ []), c.loop-row.invariant.long);
      found = c.in_ok-place.ensures.found;
    }

pub add_text-requires-clause-found : goal.add_text-requires-clause-found
add_text-requires-clause-found c = c.loop-row.invariant.found
