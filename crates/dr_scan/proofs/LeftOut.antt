-- Rows in another order of which a window gives none.
use Rattle.std.proofs.Common.{◌≡◌, ◌∙◌, sym, refl, ap, ℕ, ◌-◌, ◌≤◌, Bool, cond, List, [], length, Option, Some, None, arith}
use Rattle.std.specs.List.Sorted.{IsPermutation}
use Rattle.std.proofs.lemmas.List.{drop_all}
use Rattle.std.proofs.lemmas.List.Sorted.{length_permutation, sum_by-IsPermutation}
use Rattle.std.proofs.lemmas.List.Sums.{count_by-le-length, length-filter}
use Rattle.dr_base.specs.declared.row.Row.{Row}
use Rattle.dr_answers.specs.Given.{limited}
use Rattle.dr_answers.specs.Selection.{selected, selects}
use Rattle.dr_ask.specs.Asked.{Asked}
use Rattle.dr_scan.specs.declared.window.Window.{Window}
use Rattle.dr_scan.specs.Entries.{less}
use Rattle.dr_scan.specs.Window.{after, given}
use Rattle.dr_scan.proofs.Windows.{limited-none}

module _ (q : Asked) (came rows : List Row) (moved : IsPermutation came rows) where
  abbrev test : Row → Bool
  test r = selects q r.key

  -- in each order as many are selected
  pub as-many : length (selected q came) ≡ length (selected q rows)
  as-many = length-filter test came ∙ sym (sum_by-IsPermutation (λ r. cond (test r) 1 0) came rows moved) ∙ sym (length-filter test rows)

  few : length (selected q rows) ≤ length came
  few =
      let n = length-filter test rows in
      let le = count_by-le-length test rows in
      let same = length_permutation came rows moved in
      omega (arith, n, le, same)

  pub none-given : (w : Window) → length came ≤ w.skip → given w (selected q rows) ≡ []
  none-given w le = ap (limited w.left) (drop_all w.skip (selected q rows) (omega (arith, few, le))) ∙ limited-none w.left

-- no more than all
pub few-selected : (q : Asked) (rows : List Row) → length (selected q rows) ≤ length rows
few-selected q rows =
    let n = length-filter (λ (r : Row). selects q r.key) rows in
    let le = count_by-le-length (λ (r : Row). selects q r.key) rows in
    omega (arith, n, le)

-- a window that leaves out more than these
pub left-behind : (w : Window) (n : ℕ) → n ≤ w.skip → record { skip = w.skip - n; left = w.left } ≡ after w n
left-behind w n le = λ i. record { skip = w.skip - n; left = same w.left (n - w.skip) (omega (arith, le)) i }
  where
    same : (left : Option ℕ) (k : ℕ) → k ≡ 0 → left ≡ less left k
    same None k e = refl
    same (Some l) k e = ap Some (omega (arith, e))
