-- The starts of a granularity are starts of those that nest in it.
use Rattle.std.proofs.Common.{◌≡◌, ℕ, zero, suc, ◌+◌, ◌*◌, ◌/◌, ◌%◌, ◌<◌, ◌==◌, Bool, true, false, not, ◌&&◌, ◌||◌, List, [], ◌∷◌, length, get_or, refl, sym, ap, ◌∙◌, arith, ℤ, pos, ◌+ℤ◌, ◌-ℤ◌, ◌*ℤ◌, ◌≤ℤ◌, unsigned_abs}
use Rattle.std.specs.Int.{int_div_euclid, int_rem_euclid}
use Rattle.std.specs.List.{list_all}
use Rattle.std.proofs.lemmas.Bool.Decides.{nat_tests}
use Rattle.std.proofs.lemmas.Nat.{mul-le, div-add-mod'}
use Rattle.jiff_core.proofs.SignedLemmas.{signed_arith, int_rem_euclid-parts}
use borrow.Author.Differences.{up, down}
use Rattle.dr_time.specs.Calendar.{first_day}
use Rattle.dr_time.specs.Instant.{day_millis, first_instant}
use Rattle.dr_gran.specs.declared.gran.Gran.{Gran}
use Rattle.dr_gran.specs.declared.gran.Gran.TheVariants.{AllTime, Millisecond, Second, Minute, FiveMinute, TenMinute, FifteenMinute, ThirtyMinute, Hour, SixHour, EightHour, Day, Week, Month, Quarter, Year}
use Rattle.dr_gran.specs.declared.step.Step.{Step}
use Rattle.dr_gran.specs.declared.step.Step.TheVariants.{Millis, Months}
use Rattle.dr_gran.specs.Step.{step_of, month_start, StartsStep, IsStart, IsProper}
use Rattle.dr_gran.specs.Truncation.{truncation}
use Rattle.dr_gran.specs.Nesting.{nests}
use Rattle.dr_gran.proofs.TruncationLemmas.{proper, IsTruncation-truncation, truncation_low}

-- ---- multiples of multiples

int_mul-assoc : (k : ℤ) (m f : ℕ) → (k *ℤ pos m) *ℤ pos f ≡ k *ℤ pos (m * f)
int_mul-assoc k m f =
    let parts : up (k *ℤ pos m) + down k * m ≡ down (k *ℤ pos m) + up k * m = omega (arith, signed_arith) in
    let times : (up (k *ℤ pos m) + down k * m) * f ≡ (down (k *ℤ pos m) + up k * m) * f = ap (λ z. z * f) parts in
    omega (arith, signed_arith, times)

int_mul-add : (a b : ℤ) (f : ℕ) → (a +ℤ b) *ℤ pos f ≡ a *ℤ pos f +ℤ b *ℤ pos f
int_mul-add a b f =
    omega (arith, signed_arith, mul-le (up (a +ℤ b) + down a + down b) f (up a + up b + down (a +ℤ b)) f (omega (arith, signed_arith)) (omega arith), mul-le (up a + up b + down (a +ℤ b)) f (up (a +ℤ b) + down a + down b) f (omega (arith, signed_arith)) (omega arith))

-- a step is a multiple of a finer one, and their origins lie a multiple of it apart
abbrev fits : Step → Step → Bool
fits (Millis origin fine) (Millis other coarse) = (coarse % fine == 0) && (unsigned_abs (int_rem_euclid (other -ℤ origin) (pos fine)) == 0)
fits (Millis origin fine) (Months n) = (day_millis % fine == 0) && (unsigned_abs (int_rem_euclid (pos 0 -ℤ origin) (pos fine)) == 0)
fits (Months fine) (Millis other coarse) = false
fits (Months fine) (Months coarse) = coarse % fine == 0

both_left : (a b : Bool) → a && b ≡ true → a ≡ true
both_left true b e = refl
both_left false b e = e

both_right : (a b : Bool) → a && b ≡ true → b ≡ true
both_right true b e = e
both_right false b e = absurd (cc e)

divided : (c f : ℕ) → (c % f == 0) ≡ true → c ≡ c / f * f
divided c f e = let rest : c % f ≡ 0 = grind (arith, nat_tests) in omega (arith, div-add-mod' c f)

apart : (d : ℤ) (f : ℕ) → 0 < f → (unsigned_abs (int_rem_euclid d (pos f)) == 0) ≡ true → d ≡ int_div_euclid d (pos f) *ℤ pos f
apart d f h e =
    let rest : unsigned_abs (int_rem_euclid d (pos f)) ≡ 0 = grind (arith, nat_tests) in
    omega (arith, signed_arith, int_rem_euclid-parts d f h)

-- a multiple of the coarser length from the other origin is one of the finer length from the origin
counted : (o o' k : ℤ) (f c : ℕ) → 0 < f → (c % f == 0) ≡ true → (unsigned_abs (int_rem_euclid (o' -ℤ o) (pos f)) == 0) ≡ true → o' +ℤ k *ℤ pos c ≡ o +ℤ (int_div_euclid (o' -ℤ o) (pos f) +ℤ k *ℤ pos (c / f)) *ℤ pos f
counted o o' k f c h e g =
    let whole = divided c f e in
    let origins = apart (o' -ℤ o) f h g in
    let length_is : k *ℤ pos c ≡ (k *ℤ pos (c / f)) *ℤ pos f = ap (λ n. k *ℤ pos n) whole ∙ sym (int_mul-assoc k (c / f) f) in
    omega (arith, signed_arith, origins, length_is, int_mul-add (int_div_euclid (o' -ℤ o) (pos f)) (k *ℤ pos (c / f)) f)

zero_+ℤ : (z : ℤ) → pos 0 +ℤ z ≡ z
zero_+ℤ z = omega (arith, signed_arith)

regroup : (a b c : ℕ) → a * b * c ≡ b * (a * c)
regroup a b c = omega arith

fits_starts : (fine coarse : Step) (u : ℤ) → IsProper fine → fits fine coarse ≡ true → StartsStep coarse u → StartsStep fine u
fits_starts (Millis o f) (Millis o' c) u h e (k, is) =
    (int_div_euclid (o' -ℤ o) (pos f) +ℤ k *ℤ pos (c / f), is ∙ counted o o' k f c h (both_left _ _ e) (both_right _ _ e))
fits_starts (Millis o f) (Months n) u h e (k, is) =
    (int_div_euclid (pos 0 -ℤ o) (pos f) +ℤ first_day (n * k) *ℤ pos (day_millis / f), is ∙ (sym (zero_+ℤ (month_start (n * k))) ∙ counted o (pos 0) (first_day (n * k)) f day_millis h (both_left _ _ e) (both_right _ _ e)))
fits_starts (Months f) (Millis o' c) u h e w = absurd (cc e)
fits_starts (Months f) (Months c) u h e (k, is) =
    (c / f * k, is ∙ ap month_start (ap (λ n. n * k) (divided c f e) ∙ regroup (c / f) f k))

-- ---- a test that passes for each granularity of the list passes for each there is

abbrev every_gran : List Gran
every_gran = AllTime ∷ Millisecond ∷ Second ∷ Minute ∷ FiveMinute ∷ TenMinute ∷ FifteenMinute ∷ ThirtyMinute ∷ Hour ∷ SixHour ∷ EightHour ∷ Day ∷ Week ∷ Month ∷ Quarter ∷ Year ∷ []

list_all-at : (test : Gran → Bool) (gs : List Gran) (i : ℕ) (d : Gran) → list_all test gs ≡ true → i < length gs → test (get_or gs i d) ≡ true
list_all-at test [] i d h lt = absurd (omega arith)
list_all-at test (g ∷ gs) zero d h lt = both_left (test g) (list_all test gs) h
list_all-at test (g ∷ gs) (suc i) d h lt = list_all-at test gs i d (both_right (test g) (list_all test gs) h) (omega arith)

at_gran : (test : Gran → Bool) → list_all test every_gran ≡ true → (g : Gran) → test g ≡ true
at_gran test h AllTime = list_all-at test every_gran 0 AllTime h (omega arith)
at_gran test h Millisecond = list_all-at test every_gran 1 AllTime h (omega arith)
at_gran test h Second = list_all-at test every_gran 2 AllTime h (omega arith)
at_gran test h Minute = list_all-at test every_gran 3 AllTime h (omega arith)
at_gran test h FiveMinute = list_all-at test every_gran 4 AllTime h (omega arith)
at_gran test h TenMinute = list_all-at test every_gran 5 AllTime h (omega arith)
at_gran test h FifteenMinute = list_all-at test every_gran 6 AllTime h (omega arith)
at_gran test h ThirtyMinute = list_all-at test every_gran 7 AllTime h (omega arith)
at_gran test h Hour = list_all-at test every_gran 8 AllTime h (omega arith)
at_gran test h SixHour = list_all-at test every_gran 9 AllTime h (omega arith)
at_gran test h EightHour = list_all-at test every_gran 10 AllTime h (omega arith)
at_gran test h Day = list_all-at test every_gran 11 AllTime h (omega arith)
at_gran test h Week = list_all-at test every_gran 12 AllTime h (omega arith)
at_gran test h Month = list_all-at test every_gran 13 AllTime h (omega arith)
at_gran test h Quarter = list_all-at test every_gran 14 AllTime h (omega arith)
at_gran test h Year = list_all-at test every_gran 15 AllTime h (omega arith)

either_fits : (a b : Bool) → not a || b ≡ true → a ≡ true → b ≡ true
either_fits true b e h = e
either_fits false b e h = absurd (cc h)

abbrev nested_fits : Gran → Gran → Bool
nested_fits g h = not (nests g h) || fits (step_of g) (step_of h)

nests-fits : (g h : Gran) → nests g h ≡ true → fits (step_of g) (step_of h) ≡ true
nests-fits g h e =
    let each : nested_fits g h ≡ true = at_gran (λ b. nested_fits g b) (at_gran (λ a. list_all (λ b. nested_fits a b) every_gran) refl g) h in
    either_fits (nests g h) (fits (step_of g) (step_of h)) each e

pub nests_starts : (g h : Gran) → nests g h ≡ true → (u : ℤ) → IsStart h u → IsStart g u
nests_starts g h e u starts = fits_starts (step_of g) (step_of h) u (proper g) (nests-fits g h e) starts

-- from 0001-01-01 on, truncating on the way to a finer granularity changes nothing
pub truncation-nested : (g h : Gran) → nests g h ≡ true → (t : ℤ) → first_instant ≤ℤ t → truncation h (truncation g t) ≡ truncation h t
truncation-nested g h e t from =
    let fine = IsTruncation-truncation g t (omega (arith, signed_arith)) in
    let coarse = IsTruncation-truncation h t (omega (arith, signed_arith)) in
    let low = truncation_low g t from in
    let again = IsTruncation-truncation h (truncation g t) (omega (arith, signed_arith)) in
    -- the start of the coarser bucket is one of the finer, and so not after the finer truncation
    let shared = fine.greatest (truncation h t) (nests_starts g h e (truncation h t) coarse.starts) coarse.not_after in
    let up_to = again.greatest (truncation h t) coarse.starts shared in
    let through = fine.not_after in
    let back = coarse.greatest (truncation h (truncation g t)) again.starts (let held = again.not_after in omega (arith, signed_arith)) in
    omega (arith, signed_arith)

-- times of one finer bucket are times of one coarser bucket
pub truncation-together : (g h : Gran) → nests g h ≡ true → (t u : ℤ) → first_instant ≤ℤ t → first_instant ≤ℤ u → truncation g t ≡ truncation g u → truncation h t ≡ truncation h u
truncation-together g h e t u from from_u same =
    sym (truncation-nested g h e t from) ∙ (ap (truncation h) same ∙ truncation-nested g h e u from_u)
