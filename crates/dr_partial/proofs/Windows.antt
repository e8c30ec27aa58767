-- Times around one.
use Rattle.std.proofs.Common.{◌≡◌, ◌∙◌, sym, ℤ, ◌≤ℤ◌, ◌<ℤ◌, int_le, int_lt, true, ◌&&◌, arith}
use Rattle.std.specs.Int.{int_min, int_max}
use Rattle.std.proofs.lemmas.Int.{ints, clamps}
use Rattle.dr_time.specs.declared.interval.Interval.{Interval}
use Rattle.dr_time.specs.Instant.{IsInstant, first_instant}
use Rattle.dr_time.specs.Interval.{holds_time}
use Rattle.dr_time.specs.Union.{union_holds}
use Rattle.dr_gran.specs.Step.{is_all}
use Rattle.dr_gran.specs.Truncation.{truncation, next}
use Rattle.dr_ask.specs.Asked.{Asked}
use Rattle.dr_answers.specs.Groups.{bucket}
use Rattle.dr_columns.proofs.RunLemmas.{bucket-all, lies-same}
use Rattle.dr_partial.specs.Runs.{IsWindow}
use Rattle.dr_partial.specs.declared.window.Window.{Window}

pub inside : (x : Interval) (t : ℤ) → x.start ≤ℤ t → t <ℤ x.end → holds_time x t ≡ true
inside x t low high = both x.start x.end t low high
  where
    both : (a b t : ℤ) → a ≤ℤ t → t <ℤ b → (int_le a t && int_lt t b) ≡ true
    both a b t low high = grind (arith, ints)

pub bounds : (x : Interval) (t : ℤ) → holds_time x t ≡ true → (x.start ≤ℤ t) × (t <ℤ x.end)
bounds x t h = (low x.start x.end t h, high x.start x.end t h)
  where
    low : (a b t : ℤ) → (int_le a t && int_lt t b) ≡ true → a ≤ℤ t
    low a b t h = grind (arith, ints)

    high : (a b t : ℤ) → (int_le a t && int_lt t b) ≡ true → t <ℤ b
    high a b t h = grind (arith, ints)

from_first : (a b t : ℤ) → int_max a b ≤ℤ t → a ≤ℤ t
from_first a b t h = omega (arith, ints, clamps)

from_second : (a b t : ℤ) → int_max a b ≤ℤ t → b ≤ℤ t
from_second a b t h = omega (arith, ints, clamps)

to_first : (a b t : ℤ) → t <ℤ int_min a b → t <ℤ a
to_first a b t h = omega (arith, ints, clamps)

to_second : (a b t : ℤ) → t <ℤ int_min a b → t <ℤ b
to_second a b t h = omega (arith, ints, clamps)

pub least_both : (a b t : ℤ) → t <ℤ a → t <ℤ b → t <ℤ int_min a b
least_both a b t h g = omega (arith, ints, clamps)

pub greatest_both : (a b t : ℤ) → a ≤ℤ t → b ≤ℤ t → int_max a b ≤ℤ t
greatest_both a b t h g = omega (arith, ints, clamps)

module _ (q : Asked) (time start : ℤ) (held : Interval) (each : (t : ℤ) → holds_time held t ≡ true → union_holds q.intervals t ≡ true) (is : start ≡ bucket q time) where
  pub window-all : is_all q.granularity ≡ true → IsWindow q (record { from = held.start; to = held.end; bucket = start })
  window-all all = λ t low high. (each t (inside held t low high), bucket-all q time t all ∙ sym is)

  pub window-bucket : (from to : ℤ) → IsInstant time → from ≡ truncation q.granularity time → to ≡ next q.granularity time → first_instant ≤ℤ from
      → IsWindow q (record { from = int_max held.start from; to = int_min held.end to; bucket = start })
  window-bucket from to instant is_from is_to first = λ t low high. (
    each t (inside held t (from_first held.start from t low) (to_first held.end to t high)),
    lies-same q time t from to instant is_from is_to first (from_second held.start from t low) (to_second held.end to t high) ∙ sym is,
  )

-- a time that a window holds
pub within : (w : Window) (t : ℤ) → (int_le w.from t && int_lt t w.to) ≡ true → (w.from ≤ℤ t) × (t <ℤ w.to)
within w t h = bounds (record { start = w.from; end = w.to }) t h
