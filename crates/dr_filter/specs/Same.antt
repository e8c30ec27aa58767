-- Filters that keep the same rows.
use Rattle.std.specs.Prelude.{◌≡◌, ℕ, ℤ, List}
use Rattle.dr_filter.specs.Condition.{Condition, matches}

abbrev pub KeepSame : Condition → Condition → Type 0
KeepSame a b = (time : ℤ) (dims : List (List ℕ)) → matches time dims a ≡ matches time dims b
