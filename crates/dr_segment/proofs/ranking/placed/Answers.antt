use Rattle.std.proofs.Common.{◌≡◌, ◌∙◌, sym, ap, map, List, ℕ, Bor, [], ◌++◌, ◌∷◌, ◌+◌, arith, get_or}
use Rattle.std.specs.List.{range_with_len}
use Rattle.std.proofs.lemmas.List.{map-append, take_more}
use Rattle.dr_segment.proofs.WritingLemmas.{range_more}
use Rattle.dr_segment.proofs.ranking.placed.Goals as goal

pub loop-place-preserved : goal.loop-place-preserved
loop-place-preserved c =
    let none : Bor (List ℕ) = record { ref_ptr = (0, 0); now = [] } in
    let i = c.loop-place.place in
    let texts = c.args.texts.now in
    let zero_more : 0 + i ≡ i = omega arith in
    record {
      texts = ap (map (λ r. r.text)) c.in_ok-push.ensures.items ∙ map-append (λ r. r.text) c.loop-place.placed.items (record { text = get_or texts i none; place = i } ∷ []) ∙ ap (λ (k : List (Bor (List ℕ))). k ++ get_or texts i none ∷ []) c.loop-place.invariant.texts ∙ sym (take_more texts i none c.loop-place-test.true);
      places = ap (map (λ r. r.place)) c.in_ok-push.ensures.items ∙ map-append (λ r. r.place) c.loop-place.placed.items (record { text = get_or texts i none; place = i } ∷ []) ∙ ap (λ (k : List ℕ). k ++ i ∷ []) c.loop-place.invariant.places ∙ ap (λ k. range_with_len 0 i ++ k ∷ []) (sym zero_more) ∙ sym (range_more 0 i);
    }
