-- A row that is added to rising rows, none of which its key is below.
use Rattle.std.proofs.Common.{◌≡◌, ◌∙◌, sym, refl, ap, ℕ, ◌+◌, ◌<◌, ◌⊎◌, inl, inr, true, false, List, [], ◌∷◌, ◌++◌, Some, length, take, drop, get_or, slice_get, arith}
use Rattle.std.proofs.Math.ListN.{set}
use Rattle.std.specs.List.{AllByRecursion}
use Rattle.std.specs.Ordering.{is_lt, is_eq}
use Rattle.std.specs.declared.cmp.Ordering.{Ordering}
use Rattle.std.specs.declared.cmp.Ordering.TheVariants.{Less, Equal, Greater}
use Rattle.std.proofs.lemmas.List.{take_all, drop_all, drop_more, take-append-drop}
use Rattle.std.proofs.lemmas.Option.{slice_get-get_or}
use Rattle.dr_base.specs.declared.row.Row.{Row}
use Rattle.dr_base.specs.Order.{key_cmp}
use Rattle.dr_agg.specs.declared.kind.Kind.{Kind}
use Rattle.dr_agg.specs.Rollup.{add_row, joined, rollup, IsInOrder, IsRising, IsRollup}
use Rattle.dr_agg.proofs.RollupLaws.{same_rollup, IsRollup-rollup}
use Rattle.dr_agg.proofs.Sorting.{place-last, place-behind, set-parts}

pub equal_from : (o : Ordering) → is_eq o ≡ true → o ≡ Equal
equal_from Less e = absurd cc
equal_from Equal e = refl
equal_from Greater e = absurd cc

pub differs_from : (o : Ordering) → is_eq o ≡ false → (o ≡ Less) ⊎ (o ≡ Greater)
differs_from Less e = inl refl
differs_from Equal e = absurd cc
differs_from Greater e = inr refl

pub added_first : (kinds : List Kind) (rows : List Row) (r : Row) → length rows ≡ 0 → rows ++ r ∷ [] ≡ add_row true kinds rows r
unfolding add_row
added_first kinds [] r none = refl
added_first kinds (x ∷ xs) r none = absurd (omega arith)

pub added_behind : (kinds : List Kind) (rows : List Row) (r l : Row) (i : ℕ) → i + 1 ≡ length rows → l ≡ get_or rows i l → IsRising rows → AllByRecursion (λ x. is_lt (key_cmp r.key x.key) ≡ false) rows → is_eq (key_cmp r.key l.key) ≡ false
    → rows ++ r ∷ [] ≡ add_row true kinds rows r
added_behind kinds rows r l i len is up behind differs =
    let p = place-behind rows r l i len is up behind (differs_from (key_cmp r.key l.key) differs) in
    let all : take (length rows) rows ≡ rows = take_all (length rows) rows (omega arith) in
    let none : drop (length rows) rows ≡ [] = drop_all (length rows) rows (omega arith) in
    sym (p.1 kinds ∙ (λ j. all j ++ (r ∷ none j)))

pub added_into : (kinds : List Kind) (rows : List Row) (r l new : Row) (i : ℕ) → i + 1 ≡ length rows → l ≡ get_or rows i l → IsRising rows → AllByRecursion (λ x. is_lt (key_cmp r.key x.key) ≡ false) rows → is_eq (key_cmp r.key l.key) ≡ true
    → new ≡ joined kinds l r → set rows i new ≡ add_row true kinds rows r
added_into kinds rows r l new i len is up behind same joins =
    let lt : i < length rows = omega arith in
    let p = place-last rows r l i len is up behind (equal_from (key_cmp r.key l.key) same) in
    let at : slice_get rows i ≡ Some l = slice_get-get_or rows i l lt ∙ ap Some (sym is) in
    set-parts rows i new lt ∙ ap (λ (x : Row). take i rows ++ (x ∷ drop (i + 1) rows)) joins ∙ sym (p.1 kinds l at)

-- a list before a place, the item there, and what stands behind it
pub split_at : (rows : List Row) (i : ℕ) (r : Row) → i < length rows → r ≡ get_or rows i r → rows ≡ take i rows ++ (r ∷ drop (i + 1) rows)
split_at rows i r lt is = sym (take-append-drop i rows) ∙ ap (λ rs. take i rows ++ rs) (drop_more rows i r lt ∙ ap (λ (x : Row). x ∷ drop (i + 1) rows) (sym is))

-- rows in order that stay apart are their own rollup
pub apart_in_order : (kinds : List Kind) (rows : List Row) → IsInOrder rows → rows ≡ rollup false kinds rows
apart_in_order kinds rows ordered =
    let is : IsRollup false kinds rows rows = record { ordered = ordered; each = λ q. refl } in
    same_rollup false kinds rows rows (rollup false kinds rows) is (IsRollup-rollup false kinds rows)
