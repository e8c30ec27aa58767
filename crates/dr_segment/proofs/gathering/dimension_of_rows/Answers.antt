use Rattle.std.proofs.Common.{◌≡◌, ◌∙◌, sym, ap, subst, ℕ, ◌<◌, List, map, length, get_or, All, Bor, arith}
use Rattle.std.proofs.lemmas.List.{length-map}
use Rattle.std.proofs.lemmas.List.Sorted.{length_permutation}
use Rattle.dr_image.specs.Image.{values_of, number_in}
use Rattle.dr_segment.specs.declared.ranking.PlacedText.{PlacedText}
use Rattle.dr_segment.specs.Columns.{AreRanked, AreRanks}
use Rattle.dr_segment.specs.Tables.{column_with}
use Rattle.dr_segment.proofs.RankingLemmas.{inside, apart, dictionary, firsts_known, numbers, numbers_low}
use Rattle.dr_segment.proofs.gathering.dimension_of_rows.Goals as goal
use Rattle.dr_segment.proofs.gathering.dimension_of_rows.Goals.{After-as_slice-2, After-as_slice-4, In_ok-dictionary}

abbrev texts : List (Bor (List ℕ)) → List (List ℕ)
texts ts = map (λ (t : Bor (List ℕ)). t.now) ts

abbrev sorted : List PlacedText → List (List ℕ)
sorted rs = map (λ (r : PlacedText). r.text.now) rs

abbrev places : List PlacedText → List ℕ
places rs = map (λ (r : PlacedText). r.place) rs

are_ranked : (c : After-as_slice-2) → AreRanked (texts c.in_ok-values.values.texts.items) (sorted c.in_ok-ranked.ranked.items) (places c.in_ok-ranked.ranked.items)
are_ranked c = subst (λ (ks : List (Bor (List ℕ))). AreRanked (texts ks) (sorted c.in_ok-ranked.ranked.items) (places c.in_ok-ranked.ranked.items)) c.as_slice.ensures.value c.in_ok-ranked.ensures

many : (c : After-as_slice-2) → length c.in_ok-ranked.ranked.items ≡ length c.in_ok-values.values.texts.items
many c = omega (arith, length_permutation _ _ (are_ranked c).moved, length-map c.in_ok-ranked.ranked.items (λ (r : PlacedText). r.text.now), length-map c.in_ok-values.values.texts.items (λ (t : Bor (List ℕ)). t.now))

pub ranks-requires-clause-few : goal.ranks-requires-clause-few
ranks-requires-clause-few c = omega (arith, ap length c.as_slice-2.ensures.value, many c, c.in_ok-values.ensures.few, c.requires.few)

all_inside : (c : After-as_slice-2) → All (λ n. n < length c.in_ok-ranked.ranked.items) (places c.in_ok-ranked.ranked.items)
all_inside c =
    let rs = c.in_ok-ranked.ranked.items in
    subst (λ n. All (λ m. m < n) (places rs)) (length-map rs (λ (r : PlacedText). r.text.now))
    (inside (texts c.in_ok-values.values.texts.items) (sorted rs) (values_of c.args.d c.args.rows.now) c.in_ok-values.values.places.items (places rs) (places rs) c.in_ok-values.ensures.value (are_ranked c))

pub ranks-requires-clause-inside : goal.ranks-requires-clause-inside
ranks-requires-clause-inside c = subst (λ (rs : List PlacedText). All (λ n. n < length rs) (places rs)) (sym c.as_slice-2.ensures.value) (all_inside c)

pub ranks-requires-clause-apart : goal.ranks-requires-clause-apart
ranks-requires-clause-apart c =
    let rs = c.in_ok-ranked.ranked.items in
    rw c.as_slice-2.ensures.value
    (apart (texts c.in_ok-values.values.texts.items) (sorted rs) (values_of c.args.d c.args.rows.now) c.in_ok-values.values.places.items (places rs) (places rs) c.in_ok-values.ensures.value (are_ranked c))

are_ranks : (c : After-as_slice-4) → AreRanks (places c.in_ok-ranked.ranked.items) c.in_ok-ranks.ranks.items
are_ranks c = subst (λ (rs : List PlacedText). AreRanks (places rs) c.in_ok-ranks.ranks.items) c.as_slice-2.ensures.value c.in_ok-ranks.ensures

pub ranks_at-requires : goal.ranks_at-requires
ranks_at-requires c =
    let at = (goal.at.ranks_at-requires c) in
    let rs = c.in_ok-ranked.ranked.items in
    let known = firsts_known (texts c.in_ok-values.values.texts.items) (sorted rs) (values_of c.args.d c.args.rows.now) c.in_ok-values.values.places.items (places rs) c.in_ok-ranks.ranks.items c.in_ok-values.ensures.value (are_ranked at.After-as_slice-2) in
    let long : length (texts c.in_ok-values.values.texts.items) ≡ length c.as_slice-4.result.now = omega (arith, ap length c.as_slice-4.ensures.value, (are_ranks c).long, length-map rs (λ (r : PlacedText). r.place), many at.After-as_slice-2, length-map c.in_ok-values.values.texts.items (λ (t : Bor (List ℕ)). t.now)) in
    subst (λ (ns : List ℕ). All (λ n. n < length c.as_slice-4.result.now) ns) (sym c.as_slice-3.ensures.value) (subst (λ n. All (λ m. m < n) c.in_ok-values.values.places.items) long known)

found : (c : In_ok-dictionary) → c.in_ok-numbers.numbers.items ≡ map (λ n. get_or c.in_ok-ranks.ranks.items n 0) c.in_ok-values.values.places.items
found c = c.in_ok-numbers.ensures ∙ (λ i. map (λ n. get_or (c.as_slice-4.ensures.value i) n 0) (c.as_slice-3.ensures.value i))

words : (c : In_ok-dictionary) → texts c.in_ok-dictionary.dictionary.items ≡ sorted c.in_ok-ranked.ranked.items
words c = c.in_ok-dictionary.ensures ∙ ap sorted c.as_slice-5.ensures.value

pub invariant_of-result : goal.invariant_of-result
invariant_of-result c = record {
  known =
      let at = goal.at.invariant_of-result c in
      let rs = c.in_ok-ranked.ranked.items in
      let low = numbers_low (texts c.in_ok-values.values.texts.items) (sorted rs) (values_of c.args.d c.args.rows.now) c.in_ok-values.values.places.items (places rs) c.in_ok-ranks.ranks.items c.in_ok-values.ensures.value (are_ranked at.After-as_slice-2) (are_ranks at.After-as_slice-4) in
      let long : length (sorted rs) ≡ length c.in_ok-dictionary.dictionary.items = sym (ap length (words c)) ∙ length-map c.in_ok-dictionary.dictionary.items (λ (t : Bor (List ℕ)). t.now) in
      subst (λ (ns : List ℕ). All (λ n. n < length c.in_ok-dictionary.dictionary.items) ns) (sym (found c)) (subst (λ n. All (λ m. m < n) (map (λ n. get_or c.in_ok-ranks.ranks.items n 0) c.in_ok-values.values.places.items)) long low);
}

pub returns : goal.returns
returns c =
    let at = goal.at.returns c in
    let rs = c.in_ok-ranked.ranked.items in
    let ts = texts c.in_ok-values.values.texts.items in
    let vs = values_of c.args.d c.args.rows.now in
    let ns = numbers ts (sorted rs) vs c.in_ok-values.values.places.items (places rs) c.in_ok-ranks.ranks.items c.in_ok-values.ensures.value (are_ranked at.After-as_slice-2) (are_ranks at.After-as_slice-4) in
    let ds = dictionary ts (sorted rs) vs c.in_ok-values.values.places.items (places rs) c.in_ok-ranks.ranks.items c.in_ok-values.ensures.value (are_ranked at.After-as_slice-2) in
    let first = words at.In_ok-dictionary in
    let second = found at.In_ok-dictionary ∙ ns in
    (λ i. column_with (first i) (second i)) ∙ ap (λ (k : List (List ℕ)). column_with k (map (number_in k) vs)) ds
