-- Values of a group that are lent, and changed where they lie.
use Rattle.std.proofs.Common.{◌≡◌, ap, sym, subst, refl, ℕ, ℤ, zero, suc, ◌<◌, Some, List, [], ◌∷◌, length, slice_get, is_some, unwrap_or, true≢false, arith}
use Rattle.dr_base.specs.declared.row.Row.{Row}
use Rattle.dr_agg.specs.declared.kind.Kind.{Kind}
use Rattle.dr_agg.specs.Combination.{FitsColumns}
use Rattle.dr_agg.specs.Rollup.{AllFit}

member : (rows : List Row) (place : ℕ) → place < length rows → (row : Row) × (slice_get rows place ≡ Some row)
member [] place less = absurd (omega (arith, less))
member (r ∷ rows) zero less = (r, refl)
member (r ∷ rows) (suc place) less = member rows place (omega (arith, less))

fit-there : (kinds : List Kind) (rows : List Row) (place : ℕ) (row : Row) → AllFit kinds rows → slice_get rows place ≡ Some row → FitsColumns kinds row.metrics
fit-there kinds [] place row fits at = absurd (true≢false (sym (ap is_some at)))
fit-there kinds (r ∷ rows) zero row fits at = subst (λ (x : Row). FitsColumns kinds x.metrics) (ap (λ o. unwrap_or o r) at) fits.0
fit-there kinds (r ∷ rows) (suc place) row fits at = fit-there kinds rows place row fits.1 at

-- what is lent has a value for each column
pub fit-lent : (kinds : List Kind) (rows : List Row) (place : ℕ) (lent : List ℤ) → AllFit kinds rows → place < length rows → ((row : Row) → slice_get rows place ≡ Some row → lent ≡ row.metrics) → FitsColumns kinds lent
fit-lent kinds rows place lent fits less is =
    let row = member rows place less in
    subst (FitsColumns kinds) (sym (is row.0 row.1)) (fit-there kinds rows place row.0 fits row.1)
