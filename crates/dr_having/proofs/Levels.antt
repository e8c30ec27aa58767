-- The levels of conditions that may nest.
use Rattle.std.proofs.Common.{◌≡◌, refl, ap, ℕ, zero, suc, ◌-◌, List, arith}
use Rattle.serde_json.specs.Data.{Data}
use Rattle.dr_having.specs.HavingOf.{too_deep_of, level_of, having_at}

module _ (dimensions aggregations : List (List ℕ)) (name : List ℕ) (d : Data) where
  pub having_at-none : (levels : ℕ) → levels ≡ 0 → having_at levels dimensions aggregations name d ≡ too_deep_of name d
  unfolding having_at
  having_at-none levels none = rw none refl

  pub having_at-some : (levels : ℕ) → ¬ (levels ≡ 0) → having_at levels dimensions aggregations name d ≡ level_of (having_at (levels - 1) dimensions aggregations) dimensions aggregations name d
  unfolding having_at
  having_at-some zero some = absurd (some refl)
  having_at-some (suc inside) some =
      let one : inside ≡ suc inside - 1 = omega arith in
      ap (λ n. level_of (having_at n dimensions aggregations) dimensions aggregations name d) one
