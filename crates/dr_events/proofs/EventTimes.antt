-- Whole numbers as times: what lies beyond 64 bits lies outside the years of events.
use Rattle.std.proofs.Common.{◌≡◌, sym, refl, ap, ◌^◌, true, false, ℤ, pos, negsuc, ◌*ℤ◌, Option, Some, None, arith, FitsSigned, w64}
use Rattle.std.specs.Prelude.{nat_lt, ◌&&◌, int_le, SomeIff, option_map, option_and_then, if◌then◌else◌}
use Rattle.std.proofs.lemmas.Int.{ints}
use borrow.Author.Tests.{ltb-false}
use Rattle.dr_time.specs.Instant.{IsInstant, first_instant, last_instant}
use Rattle.dr_events.specs.WholeNumber.{in_64_bits}
use Rattle.dr_events.specs.EventTime.{in_years, of_seconds}

-- what is kept is the number itself
pub same-in_64_bits : (z t : ℤ) → in_64_bits z ≡ Some t → z ≡ t
same-in_64_bits (pos n) t h = elim (nat_lt n (2 ^ 63)) as (λ b. (if b then Some (pos n) else None) ≡ Some t → pos n ≡ t) [ true ↦ λ k. cc | false ↦ λ k. cc ] h
same-in_64_bits (negsuc n) t h = elim (nat_lt n (2 ^ 63)) as (λ b. (if b then Some (negsuc n) else None) ≡ Some t → negsuc n ≡ t) [ true ↦ λ k. cc | false ↦ λ k. cc ] h

not_fits : (z : ℤ) → in_64_bits z ≡ None → FitsSigned w64 z → ⊥
not_fits (pos n) h fits = elim (nat_lt n (2 ^ 63)) as (λ b. nat_lt n (2 ^ 63) ≡ b → (if b then Some (pos n) else None) ≡ None → ⊥) [ true ↦ λ e k. cc | false ↦ λ e k. let ge = ltb-false n (2 ^ 63) e in absurd (omega (arith, ints)) ] refl h
not_fits (negsuc n) h fits = elim (nat_lt n (2 ^ 63)) as (λ b. nat_lt n (2 ^ 63) ≡ b → (if b then Some (negsuc n) else None) ≡ None → ⊥) [ true ↦ λ e k. cc | false ↦ λ e k. let ge = ltb-false n (2 ^ 63) e in absurd (omega (arith, ints)) ] refl h

fits-instant : (z : ℤ) → IsInstant z → FitsSigned w64 z
fits-instant z h = omega (arith, ints)

pub inside : (z : ℤ) → (int_le first_instant z && int_le z last_instant) ≡ true → IsInstant z
inside z e = (grind (arith, ints), grind (arith, ints))

-- what is no time lies outside the years
outside : (z : ℤ) → (IsInstant z → ⊥) → in_years z ≡ None
outside z none = elim (int_le first_instant z && int_le z last_instant) as (λ b. (int_le first_instant z && int_le z last_instant) ≡ b → (if b then Some z else None) ≡ None) [ true ↦ λ e. absurd (none (inside z e)) | false ↦ λ e. refl ] refl

-- the bound of 64 bits takes no time away
pub years-in_64_bits : (o : Option ℤ) → option_and_then in_years (option_and_then in_64_bits o) ≡ option_and_then in_years o
years-in_64_bits None = refl
years-in_64_bits (Some z) =
    elim (in_64_bits z) as (λ r. in_64_bits z ≡ r → option_and_then in_years r ≡ in_years z) [
      | None ↦ λ e. sym (outside z (λ t. not_fits z e (fits-instant z t)))
      | Some x ↦ λ e. ap in_years (sym (same-in_64_bits z x e))
    ]
    refl

smaller : (z : ℤ) → FitsSigned w64 (z *ℤ pos 1000) → FitsSigned w64 z
smaller z fits = omega (arith, ints)

-- seconds as milliseconds, where these are within 64 bits
pub years-of_seconds : (o : Option ℤ) (s : ℤ) (r : Option ℤ) → Some s ≡ option_and_then in_64_bits o → SomeIff r (FitsSigned w64 (s *ℤ pos 1000)) (s *ℤ pos 1000) → option_and_then in_years r ≡ option_and_then in_years (option_map of_seconds o)
years-of_seconds None s r e h = cc
years-of_seconds (Some z) s (Some x) e h = let same = same-in_64_bits z s (sym e) in rw (same, h.1) refl
years-of_seconds (Some z) s None e h = let same = same-in_64_bits z s (sym e) in rw same (sym (outside (s *ℤ pos 1000) (λ t. h (fits-instant (s *ℤ pos 1000) t))))

-- seconds beyond 64 bits
pub years-too_many : (o : Option ℤ) → None ≡ option_and_then in_64_bits o → None ≡ option_and_then in_years (option_map of_seconds o)
years-too_many None e = refl
years-too_many (Some z) e = sym (outside (z *ℤ pos 1000) (λ t. not_fits z (sym e) (smaller z (fits-instant (z *ℤ pos 1000) t))))
