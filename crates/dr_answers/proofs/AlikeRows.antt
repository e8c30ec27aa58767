-- Rows that are alike for a query have the same answer.
use Rattle.std.proofs.Common.{◌≡◌, ◌∙◌, sym, refl, ap, ℤ, Bool, List, [], ◌∷◌, map, filter, ◌&&◌}
use Rattle.std.specs.Prelude.{Ok, if◌then◌else◌}
use Rattle.std.specs.List.{list_any}
use Rattle.std.specs.Ordering.{eq_by_cmp}
use Rattle.dr_base.specs.Reading.{◌>>=◌}
use Rattle.dr_base.specs.declared.key.Key.{Key}
use Rattle.dr_base.specs.declared.row.Row.{Row}
use Rattle.dr_base.specs.Order.{key_cmp}
use Rattle.dr_ask.specs.declared.dimension.Dimension.{Dimension}
use Rattle.dr_ask.specs.Asked.{Asked, AskedShape, timeseries, group_by, scan, dimensions_by}
use Rattle.dr_answers.specs.Answer.{answer, given_of, text_of}
use Rattle.dr_answers.specs.Fold.{folds}
use Rattle.dr_answers.specs.Groups.{group_of, is_same_group, groups_of, filled_in, filled, keys_by, group, groups}
use Rattle.dr_answers.specs.Laws.{Alike}
use Rattle.dr_answers.specs.Selection.{selects, selected}
use Rattle.dr_answers.proofs.Keys.{same_groups}
use Rattle.dr_answers.proofs.Rows.{filter-filter, list_any-made}
use Rattle.dr_answers.proofs.Spans.{same_span}

map-same : {A B : Type 0} (f g : A → B) → ((x : A) → f x ≡ g x) → (xs : List A) → map f xs ≡ map g xs
map-same f g h [] = refl
map-same f g h (x ∷ xs) = λ i. h x i ∷ map-same f g h xs i

module _ (q : Asked) (a b : List Row) (alike : Alike q a b) where
  groups_of-alike : (dimensions : List Dimension) → groups_of q dimensions (selected q a) ≡ groups_of q dimensions (selected q b)
  groups_of-alike dimensions =
      let made : List Row → List Key = λ rows. map (λ r. group_of q dimensions r.key) (selected q rows) in
      let among : (k : Key) (rows : List Row) → list_any (eq_by_cmp key_cmp k) (made rows) ≡ list_any (λ r. selects q r.key && eq_by_cmp key_cmp k (group_of q dimensions r.key)) rows =
      λ k rows. list_any-made (eq_by_cmp key_cmp k) (group_of q dimensions) (selects q) rows in
      same_groups (made a) (made b) (λ k. among k a ∙ alike.keys (λ j. selects q j && eq_by_cmp key_cmp k (group_of q dimensions j)) ∙ sym (among k b))

  filled-alike : filled q a ≡ filled q b
  filled-alike = ap (λ s. map (λ t. record { time = t; dims = [] }) (filled_in q s)) (same_span a b alike.keys)

  keys-alike : (shape : AskedShape) → keys_by shape q a ≡ keys_by shape q b
  keys-alike (timeseries t) = λ i. if t.skips_empty_buckets then groups_of-alike [] i else filled-alike i
  keys-alike (group_by g) = groups_of-alike g.dimensions
  keys-alike (scan s) = refl

  group-alike : (g : Key) → group q a g ≡ group q b g
  group-alike g =
      let s : Key → Bool = selects q in
      let same : Key → Bool = λ k. is_same_group (group_of q (dimensions_by q.shape) k) g in
      let values : (rows : List Row) → folds q.aggregations (filter (λ r. same r.key) (selected q rows)) ≡ folds q.aggregations (filter (λ r. s r.key && same r.key) rows) =
      λ rows. ap (folds q.aggregations) (filter-filter (λ r. s r.key) (λ r. same r.key) rows) in
      ap (λ (v : List ℤ). record { time = g.time; dims = g.dims; values = v }) (values a ∙ alike.values (λ k. s k && same k) ∙ sym (values b))

  groups-alike : groups q a ≡ groups q b
  groups-alike = ap (map (group q a)) (keys-alike q.shape) ∙ map-same (group q a) (group q b) group-alike (keys_by q.shape q b)

  pub answer-alike : answer q a ≡ answer q b
  unfolding answer
  answer-alike = ap (λ g. given_of q g >>= (λ given. Ok (text_of q given))) groups-alike
