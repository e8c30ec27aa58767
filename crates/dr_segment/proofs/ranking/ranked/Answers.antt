use Rattle.std.proofs.Common.{◌≡◌, ◌∙◌, sym, refl, ap, map, List, ℕ, Bor, [], ◌∷◌, rules}
use Rattle.std.specs.List.{range_with_len}
use Rattle.std.proofs.lemmas.List.{length-map}
use Rattle.std.proofs.lemmas.List.Sorted.{answers_always}
use Rattle.dr_segment.specs.declared.ranking.PlacedText.{PlacedText}
use Rattle.dr_segment.proofs.RankingLemmas.{ranked_by}
use Rattle.dr_segment.proofs.ranking.ranked.Goals as goal

-- the texts of items, by what these borrow
mapped : (items : List PlacedText) (texts : List (Bor (List ℕ))) → map (λ (r : PlacedText). r.text) items ≡ texts → map (λ (r : PlacedText). r.text.now) items ≡ map (λ (t : Bor (List ℕ)). t.now) texts
mapped items texts e = each items ∙ ap (map (λ (t : Bor (List ℕ)). t.now)) e
  where
    each : (rs : List PlacedText) → map (λ (r : PlacedText). r.text.now) rs ≡ map (λ (t : Bor (List ℕ)). t.now) (map (λ (r : PlacedText). r.text) rs)
    each [] = refl
    each (r ∷ rs) = ap (λ k. r.text.now ∷ k) (each rs)

pub returns : goal.returns
returns c =
    let none : PlacedText = record { text = record { ref_ptr = (0, 0); now = [] }; place = 0 } in
    let texts = c.args.texts.now in
    let up = c.sort_unstable_by_key.ensures.sorted (λ r. r.text) (answers_always _ _ _ (λ f a r g h. search rules)) in
    let long = length-map texts (λ t. t.now) in
    ranked_by (λ r. r.text.now) (λ r. r.place) none (map (λ t. t.now) texts) c.in_ok-ranked.ranked.items c.sort_unstable_by_key.new.self.items
    (mapped c.in_ok-ranked.ranked.items texts c.in_ok-ranked.ensures.texts) (c.in_ok-ranked.ensures.places ∙ ap (range_with_len 0) (sym long))
    c.sort_unstable_by_key.ensures.permutation up
