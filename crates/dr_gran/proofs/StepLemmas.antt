-- The start of a bucket and of the next one, as they are calculated from what a time lies behind the start.
use Rattle.std.proofs.Common.{◌≡◌, sym, ◌≤◌, ℕ, ℤ, pos, ◌+ℤ◌, ◌-ℤ◌, FitsSigned, to_z, of_z, w64}
use Rattle.std.specs.Int.{int_rem_euclid}
use Rattle.std.proofs.lemmas.Int.{to_z-of_z}
use Rattle.dr_gran.specs.declared.gran.Gran.{Gran}
use Rattle.dr_gran.specs.declared.step.Step.TheVariants.{Millis}
use Rattle.dr_gran.specs.Step.{step_of}
use Rattle.dr_gran.specs.Truncation.{truncation, next}
use Rattle.dr_gran.proofs.TruncationLemmas.{truncated-rem, following-rem, step_bounds}

-- r is what is left over of the time, whose number and the origin's came in by value
pub starts-rem : (g : Gran) (t o : ℤ) (l : ℕ) (r : ℤ) → FitsSigned w64 t → FitsSigned w64 o → Millis o l ≡ step_of g
    → r ≡ int_rem_euclid (to_z w64 (of_z w64 t) -ℤ to_z w64 (of_z w64 o)) (pos l)
    → (t -ℤ r ≡ truncation g t) × (t -ℤ r +ℤ pos l ≡ next g t) × (l ≤ 604_800_000)
starts-rem g t o l r t_fits o_fits step is =
    let e = sym step in
    let small = rw e at (step_bounds g) in
    let rem : r ≡ int_rem_euclid (t -ℤ o) (pos l) = simp to_z-of_z at is in
    (rw rem (truncated-rem g o l t e), rw rem (following-rem g o l t e), small.2)
