-- How many rows there are with one more.
use Rattle.std.proofs.Common.{◌+◌, ◌≤◌, Bool, true, false, List, [], ◌∷◌, length, suc, arith, if◌then◌else◌}
use Rattle.std.specs.declared.cmp.Ordering.TheVariants.{Less, Equal, Greater}
use Rattle.std.specs.Ordering.{match_ordering}
use Rattle.dr_base.specs.declared.row.Row.{Row}
use Rattle.dr_base.specs.Order.{key_cmp}
use Rattle.dr_agg.specs.declared.kind.Kind.{Kind}
use Rattle.dr_agg.specs.Rollup.{add_row, joined}

pub length-add_row : (combines : Bool) (kinds : List Kind) (rows : List Row) (r : Row) → length (add_row combines kinds rows r) ≤ length rows + 1
unfolding add_row
length-add_row combines kinds [] r = omega arith
length-add_row combines kinds (x ∷ xs) r =
    let rest = length-add_row combines kinds xs r in
    elim (key_cmp r.key x.key) as (λ o. length (match_ordering o (r ∷ x ∷ xs) (if combines then joined kinds x r ∷ xs else (x ∷ add_row combines kinds xs r)) (x ∷ add_row combines kinds xs r)) ≤ suc (length xs) + 1) [
      | Less ↦ omega arith
      | Equal ↦ elim combines as (λ b. length (if b then joined kinds x r ∷ xs else (x ∷ add_row combines kinds xs r)) ≤ suc (length xs) + 1) [ true ↦ omega arith | false ↦ omega (arith, rest) ]
      | Greater ↦ omega (arith, rest)
    ]
