-- The levels of filters that may nest.
use Rattle.std.proofs.Common.{◌≡◌, refl, ap, ℕ, zero, suc, ◌-◌, List, arith}
use Rattle.serde_json.specs.Data.{Data}
use Rattle.dr_schema.specs.declared.schema.Schema.{Schema}
use Rattle.dr_filter.specs.FilterOf.{too_deep_of, level_of, filter_at}

pub filter_at-none : (levels : ℕ) (schema : Schema) (name : List ℕ) (d : Data) → levels ≡ 0 → filter_at levels schema name d ≡ too_deep_of name d
unfolding filter_at
filter_at-none levels schema name d none = rw none refl

pub filter_at-some : (levels : ℕ) (schema : Schema) (name : List ℕ) (d : Data) → ¬ (levels ≡ 0) → filter_at levels schema name d ≡ level_of (filter_at (levels - 1) schema) schema name d
unfolding filter_at
filter_at-some zero schema name d some = absurd (some refl)
filter_at-some (suc inside) schema name d some =
    let one : inside ≡ suc inside - 1 = omega arith in
    ap (λ n. level_of (filter_at n schema) schema name d) one
