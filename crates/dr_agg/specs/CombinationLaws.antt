-- The laws of the ways to combine, for the trait.
use Rattle.std.specs.Prelude.{◌≡◌, ℤ, pos, ◌+ℤ◌, FitsSigned}
use Rattle.std.specs.Int.{int_min, int_max, int_wrap, w64}
use Rattle.std.proofs.Common.{◌∙◌, sym, ap, arith}
use Rattle.std.proofs.Math.IntN.{+ℤ_assoc, +ℤ_comm, +ℤ_idl}
use Rattle.std.proofs.lemmas.Int.{int_wrap-add_left, int_wrap-add_right, int_wrap_fits, ints, clamps}
use Rattle.dr_agg.specs.Combination.{wrapping_sum, least, greatest}

pub wrapping_sum-assoc : (a b c : ℤ) → wrapping_sum (wrapping_sum a b) c ≡ wrapping_sum a (wrapping_sum b c)
wrapping_sum-assoc a b c = int_wrap-add_left w64 (a +ℤ b) c ∙ ap (int_wrap w64) (+ℤ_assoc a b c) ∙ sym (int_wrap-add_right w64 a (b +ℤ c))

pub wrapping_sum-comm : (a b : ℤ) → wrapping_sum a b ≡ wrapping_sum b a
wrapping_sum-comm a b = ap (int_wrap w64) (+ℤ_comm a b)

pub wrapping_sum-unit : (a : ℤ) → FitsSigned w64 a → wrapping_sum (pos 0) a ≡ a
wrapping_sum-unit a fits = ap (int_wrap w64) (+ℤ_idl a) ∙ int_wrap_fits w64 a fits

pub int_min-assoc : (a b c : ℤ) → int_min (int_min a b) c ≡ int_min a (int_min b c)
int_min-assoc a b c = omega (arith, ints, clamps)

pub int_min-comm : (a b : ℤ) → int_min a b ≡ int_min b a
int_min-comm a b = omega (arith, ints, clamps)

pub int_min-unit : (a : ℤ) → FitsSigned w64 a → int_min greatest a ≡ a
int_min-unit a fits = omega (arith, ints, clamps)

pub int_max-assoc : (a b c : ℤ) → int_max (int_max a b) c ≡ int_max a (int_max b c)
int_max-assoc a b c = omega (arith, ints, clamps)

pub int_max-comm : (a b : ℤ) → int_max a b ≡ int_max b a
int_max-comm a b = omega (arith, ints, clamps)

pub int_max-unit : (a : ℤ) → FitsSigned w64 a → int_max least a ≡ a
int_max-unit a fits = omega (arith, ints, clamps)
