-- Inputs are numbers of 64 bits with a sign.
use Rattle.std.proofs.Common.{◌≡◌, refl, subst, ℕ, ◌≤◌, ◌^◌, true, false, List, [], ◌∷◌, ℤ, pos, negsuc, Option, Some, None, arith, FitsSigned, w64}
use Rattle.std.specs.Prelude.{nat_lt, option_and_then, if◌then◌else◌}
use Rattle.std.proofs.lemmas.Int.{ints}
use borrow.Author.Tests.{ltb-true, lt-ltb}
use Rattle.serde_json.specs.Data.{Data, null, boolean, number, string, array, object}
use Rattle.serde_json.specs.Find.{as_integer}
use Rattle.dr_agg.specs.declared.kind.Kind.TheVariants.{Count, LongSum, LongMin, LongMax}
use Rattle.dr_agg.specs.declared.kind.Kind.{Kind}
use Rattle.dr_schema.specs.declared.metric.Metric.{Metric}
use Rattle.dr_events.specs.WholeNumber.{in_64_bits, signed_number}
use Rattle.dr_events.specs.MetricInput.{text_input, number_input, input_by, input_field, metric_input}

pub in_64_bits-fits : (z : ℤ) → FitsSigned w64 z → in_64_bits z ≡ Some z
in_64_bits-fits (pos n) fits = rw (lt-ltb n (2 ^ 63) (omega (arith, ints))) refl
in_64_bits-fits (negsuc n) fits = rw (lt-ltb n (2 ^ 63) (omega (arith, ints))) refl

pub FitsSigned-in_64_bits : (z t : ℤ) → in_64_bits z ≡ Some t → FitsSigned w64 t
FitsSigned-in_64_bits (pos n) t h =
    elim (nat_lt n (2 ^ 63)) as (λ b. nat_lt n (2 ^ 63) ≡ b → (if b then Some (pos n) else None) ≡ Some t → FitsSigned w64 t) [
      | true ↦ λ e k. let lt = ltb-true n (2 ^ 63) e in let same : pos n ≡ t = cc in subst (FitsSigned w64) same (omega (arith, ints))
      | false ↦ λ e k. cc
    ]
    refl h
FitsSigned-in_64_bits (negsuc n) t h =
    elim (nat_lt n (2 ^ 63)) as (λ b. nat_lt n (2 ^ 63) ≡ b → (if b then Some (negsuc n) else None) ≡ Some t → FitsSigned w64 t) [
      | true ↦ λ e k. let lt = ltb-true n (2 ^ 63) e in let same : negsuc n ≡ t = cc in subst (FitsSigned w64) same (omega (arith, ints))
      | false ↦ λ e k. cc
    ]
    refl h

FitsSigned-bound : (o : Option ℤ) (t : ℤ) → option_and_then in_64_bits o ≡ Some t → FitsSigned w64 t
FitsSigned-bound None t h = cc
FitsSigned-bound (Some z) t h = FitsSigned-in_64_bits z t h

FitsSigned-small : (n : ℕ) (t : ℤ) → n ≤ 1 → pos n ≡ t → FitsSigned w64 t
FitsSigned-small n t le same = subst (FitsSigned w64) same (omega (arith, ints))

FitsSigned-text_input : (s : List ℕ) (t : ℤ) → text_input s ≡ Some t → FitsSigned w64 t
FitsSigned-text_input [] t h = FitsSigned-small 0 t (omega arith) (cc)
FitsSigned-text_input (c ∷ cs) t h = FitsSigned-bound (signed_number (c ∷ cs)) t h

FitsSigned-number_input : (o : Option Data) (t : ℤ) → number_input o ≡ Some t → FitsSigned w64 t
FitsSigned-number_input None t h = FitsSigned-small 0 t (omega arith) (cc)
FitsSigned-number_input (Some null) t h = FitsSigned-small 0 t (omega arith) (cc)
FitsSigned-number_input (Some (boolean b)) t h = cc
FitsSigned-number_input (Some (number n)) t h = FitsSigned-bound (as_integer n) t h
FitsSigned-number_input (Some (string s)) t h = FitsSigned-text_input s t h
FitsSigned-number_input (Some (array ds)) t h = cc
FitsSigned-number_input (Some (object ms)) t h = cc

FitsSigned-input_by : (kind : Kind) (o : Option Data) (t : ℤ) → input_by kind o ≡ Some t → FitsSigned w64 t
FitsSigned-input_by Count o t h = FitsSigned-small 1 t (omega arith) (cc)
FitsSigned-input_by LongSum o t h = FitsSigned-number_input o t h
FitsSigned-input_by LongMin o t h = FitsSigned-number_input o t h
FitsSigned-input_by LongMax o t h = FitsSigned-number_input o t h

pub FitsSigned-metric_input : (d : Data) (metric : Metric) (t : ℤ) → metric_input d metric ≡ Some t → FitsSigned w64 t
FitsSigned-metric_input d metric t h = FitsSigned-input_by metric.kind (input_field metric.field d) t h
