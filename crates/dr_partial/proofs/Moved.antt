-- Rows in another order.
use Rattle.std.proofs.Common.{◌≡◌, ◌∙◌, sym, refl, ap, true, false, cond, List, [], ◌∷◌, ◌++◌, map, append_assoc}
use Rattle.std.specs.List.{AllByRecursion, fold}
use Rattle.std.specs.List.Sorted.{IsPermutation}
use Rattle.std.proofs.lemmas.List.Sorted.{IsPermutation-append_right, IsPermutation-append_comm, IsPermutation-sym, All-permutation}
use Rattle.std.proofs.lemmas.List.Elements.{All-from_recursion, recursion_from_All}
use Rattle.dr_base.specs.declared.row.Row.{Row}
use Rattle.dr_agg.specs.declared.kind.Kind.{Kind}
use Rattle.dr_agg.specs.Rollup.{add_row, rollup, rollup_onto}
use Rattle.dr_agg.proofs.RollupLaws.{rollup_onto_push}
use Rattle.dr_agg.proofs.Rearranged.{fold-IsPermutation, rollup-IsPermutation}
use Rattle.dr_agg.proofs.Sorting.{rollup-nil}
use Rattle.dr_ask.specs.Asked.{Asked}
use Rattle.dr_answers.specs.Selection.{selects, selected}
use Rattle.dr_partial.specs.Grouped.{IsSound, AddsAll, in_order, with_rows}
use Rattle.dr_partial.specs.Partial.{kinds_in, alone, partial}
use Rattle.dr_partial.proofs.Adding.{in_order-rollup}

module _ (q : Asked) where
  abbrev kinds : List Kind
  kinds = kinds_in q.aggregations

  -- groups that are a rollup
  abbrev Reached : List Row → Type 0
  Reached rows = (es : List Row) × (rows ≡ rollup true kinds es)

  abbrev with_one : List Row → Row → List Row
  with_one rows r = cond (selects q r.key) (add_row true kinds rows (alone q r)) rows

  pushed : (rows : List Row) (x : Row) → Reached rows → Reached (add_row true kinds rows x)
  pushed rows x reached = (reached.0 ++ x ∷ [], ap (λ l. add_row true kinds l x) reached.1 ∙ sym (rollup_onto_push true kinds [] reached.0 x))

  kept : (rows : List Row) (r : Row) → Reached rows → Reached (with_one rows r)
  kept rows r reached = elim (selects q r.key) as (λ b. Reached (cond b (add_row true kinds rows (alone q r)) rows)) [ true ↦ pushed rows (alone q r) reached | false ↦ reached ]

  two : (rows : List Row) (x y : Row) → (reached : Reached rows) → add_row true kinds (add_row true kinds rows x) y ≡ rollup true kinds (reached.0 ++ (x ∷ y ∷ []))
  unfolding rollup_onto add_row pushed
  two rows x y reached =
      let es = reached.0 in
      ap (λ l. add_row true kinds l y) (pushed rows x reached).1
      ∙ sym (rollup_onto_push true kinds [] (es ++ x ∷ []) y)
      ∙ ap (rollup true kinds) (append_assoc es (x ∷ []) (y ∷ []))

  exchanged : (rows : List Row) (x y : Row) → Reached rows → add_row true kinds (add_row true kinds rows x) y ≡ add_row true kinds (add_row true kinds rows y) x
  exchanged rows x y reached =
      two rows x y reached
      ∙ rollup-IsPermutation kinds (reached.0 ++ (x ∷ y ∷ [])) (reached.0 ++ (y ∷ x ∷ [])) (IsPermutation-append_right reached.0 (x ∷ y ∷ []) (y ∷ x ∷ []) (IsPermutation-append_comm (x ∷ []) (y ∷ [])))
      ∙ sym (two rows y x reached)

  exchange : (rows : List Row) (x y : Row) → Reached rows → with_one (with_one rows x) y ≡ with_one (with_one rows y) x
  exchange rows x y reached =
      elim (selects q x.key) as (λ a. cond (selects q y.key) (add_row true kinds (cond a (add_row true kinds rows (alone q x)) rows) (alone q y)) (cond a (add_row true kinds rows (alone q x)) rows)
      ≡ cond a (add_row true kinds (cond (selects q y.key) (add_row true kinds rows (alone q y)) rows) (alone q x)) (cond (selects q y.key) (add_row true kinds rows (alone q y)) rows)) [
        | true ↦ elim (selects q y.key) as (λ b. cond b (add_row true kinds (add_row true kinds rows (alone q x)) (alone q y)) (add_row true kinds rows (alone q x)) ≡ add_row true kinds (cond b (add_row true kinds rows (alone q y)) rows) (alone q x))
            [ true ↦ exchanged rows (alone q x) (alone q y) reached | false ↦ refl ]
        | false ↦ refl
      ]

  one_by_one : (groups rows : List Row) → with_rows q groups rows ≡ fold with_one groups rows
  unfolding rollup_onto
  one_by_one groups [] = refl
  one_by_one groups (r ∷ rows) =
      elim (selects q r.key) as (λ b. rollup_onto true kinds groups (map (alone q) (cond b (r ∷ selected q rows) (selected q rows))) ≡ fold with_one (cond b (add_row true kinds groups (alone q r)) groups) rows)
      [ true ↦ one_by_one (add_row true kinds groups (alone q r)) rows | false ↦ one_by_one groups rows ]

  -- what rows add doesn't depend on their order
  pub adds-moved : (before a b after : List Row) → IsSound kinds before → IsPermutation a b → AddsAll q before a after → AddsAll q before b after
  adds-moved before a b after so moved adds =
      let reached : Reached (in_order before) = (before, in_order-rollup kinds before so.apart) in
      record {
        sound = adds.sound;
        groups = adds.groups ∙ one_by_one (in_order before) a
            ∙ sym (fold-IsPermutation with_one Reached kept exchange (in_order before) a b reached moved)
            ∙ sym (one_by_one (in_order before) b);
      }

pub all-moved : (P : Row → Type 0) (a b : List Row) → IsPermutation a b → AllByRecursion P b → AllByRecursion P a
all-moved P a b moved all = recursion_from_All P a (All-permutation P b a (IsPermutation-sym a b moved) (All-from_recursion P b all))

pub partial-moved : (q : Asked) (a b : List Row) → IsPermutation a b → partial q a ≡ partial q b
partial-moved q a b moved =
    one_by_one q [] a ∙ sym (fold-IsPermutation (with_one q) (Reached q) (kept q) (exchange q) [] a b ([], sym (rollup-nil (kinds q))) moved) ∙ sym (one_by_one q [] b)
