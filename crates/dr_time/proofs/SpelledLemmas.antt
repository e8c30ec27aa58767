-- Whatever is spelled is read.
use Rattle.std.proofs.Common.{◌≡◌, ℕ, zero, suc, ◌+◌, ◌-◌, ◌*◌, ◌<◌, ◌≤◌, ◌==◌, Bool, true, false, ◌&&◌, List, [], ◌∷◌, ◌++◌, length, take, codes, Result, Ok, refl, ◌∙◌, arith, append_assoc, ℤ, pos}
use Rattle.std.specs.Prelude.{⊤}
use Rattle.std.proofs.lemmas.List.{append-nil}
use Rattle.std.proofs.lemmas.Bool.Decides.{nat_tests}
use Rattle.dr_time.specs.declared.time_error.TimeError.{TimeError}
use Rattle.dr_time.specs.Calendar.{is_date, day_number}
use Rattle.dr_time.specs.Digits.{is_digit, one_digit, two_digits, four_digits, digit_or_zero, behind_digits, behind}
use Rattle.dr_time.specs.Clock.{colon, full_stop, minutes_at, seconds_at, minutes_of, fraction_of, seconds_of, shift_of, zone_of, clock_of, clock_behind}
use Rattle.dr_time.specs.Instant.{in_range, time_at, day_of, date_of, instant_of}
use Rattle.dr_time.specs.Spelling.{number_of, AreDigits, IsNumeral, IsBelow, SpellsDay, to_day, SpellsDate, to_year, to_month, whole, SpellsMinutes, to_hour, to_minute, SpellsSeconds, to_second, to_fraction, SpellsClock, without_seconds, with_seconds, SpellsZone, unsaid, utc, ahead, late, IsMark, letter, space, Spells, date, date_and_time}
use Rattle.dr_time.proofs.DigitLemmas.{behind_digits-zero, behind_digits-suc}

-- ---- digits

pub both : (a b : Bool) → a && b ≡ true → (a ≡ true) × (b ≡ true)
both true b h = (refl, h)
both false b h = absurd (cc)

two_digits-made : (a b : ℕ) (rest : List ℕ) → is_digit a ≡ true → is_digit b ≡ true → two_digits (a ∷ b ∷ rest) ≡ Ok ((a - 48) * 10 + (b - 48), rest)
two_digits-made a b rest first second = rw (first, second) refl

two_digits-value : (a b : ℕ) → number_of (a ∷ b ∷ []) ≡ (a - 48) * 10 + (b - 48)
two_digits-value a b = omega arith

pub two_digits-reads : (s rest : List ℕ) → IsNumeral 2 s → two_digits (s ++ rest) ≡ Ok (number_of s, rest)
two_digits-reads [] rest h = absurd (omega (arith, h.1))
two_digits-reads (a ∷ []) rest h = absurd (omega (arith, h.1))
two_digits-reads (a ∷ b ∷ []) rest h =
    let first = both (is_digit a) (is_digit b && true) h.0 in
    let second = both (is_digit b) true first.1 in
    two_digits-made a b rest first.0 second.0 ∙ rw (two_digits-value a b) refl
two_digits-reads (a ∷ b ∷ c ∷ s) rest h = absurd (omega (arith, h.1))

four_digits-made : (a b c d : ℕ) (rest : List ℕ) → is_digit a ≡ true → is_digit b ≡ true → is_digit c ≡ true → is_digit d ≡ true → four_digits (a ∷ b ∷ c ∷ d ∷ rest) ≡ Ok (((a - 48) * 10 + (b - 48)) * 100 + ((c - 48) * 10 + (d - 48)), rest)
unfolding four_digits
four_digits-made a b c d rest first second third fourth = rw (first, second, third, fourth) refl

four_digits-value : (a b c d : ℕ) → number_of (a ∷ b ∷ c ∷ d ∷ []) ≡ ((a - 48) * 10 + (b - 48)) * 100 + ((c - 48) * 10 + (d - 48))
four_digits-value a b c d = omega arith

pub four_digits-reads : (s rest : List ℕ) → IsNumeral 4 s → four_digits (s ++ rest) ≡ Ok (number_of s, rest)
four_digits-reads [] rest h = absurd (omega (arith, h.1))
four_digits-reads (a ∷ []) rest h = absurd (omega (arith, h.1))
four_digits-reads (a ∷ b ∷ []) rest h = absurd (omega (arith, h.1))
four_digits-reads (a ∷ b ∷ c ∷ []) rest h = absurd (omega (arith, h.1))
four_digits-reads (a ∷ b ∷ c ∷ d ∷ []) rest h =
    let first = both (is_digit a) (is_digit b && (is_digit c && (is_digit d && true))) h.0 in
    let second = both (is_digit b) (is_digit c && (is_digit d && true)) first.1 in
    let third = both (is_digit c) (is_digit d && true) second.1 in
    let fourth = both (is_digit d) true third.1 in
    four_digits-made a b c d rest first.0 second.0 third.0 fourth.0 ∙ rw (four_digits-value a b c d) refl
four_digits-reads (a ∷ b ∷ c ∷ d ∷ e ∷ s) rest h = absurd (omega (arith, h.1))

-- ---- what stands behind

abbrev pub NoDigit : List ℕ → Type 0
NoDigit [] = ⊤
NoDigit (c ∷ rest) = is_digit c ≡ false

-- the text goes on with neither a digit, nor a colon, nor a full stop
abbrev pub Stops : List ℕ → Type 0
Stops [] = ⊤
Stops (c ∷ rest) = (is_digit c ≡ false) × ((c == colon) ≡ false) × ((c == full_stop) ≡ false)

Stops-no_digit : (rest : List ℕ) → Stops rest → NoDigit rest
Stops-no_digit [] h = tt
Stops-no_digit (c ∷ rest) h = h.0

behind-colon : (read : List ℕ → Result (ℕ × List ℕ) TimeError) (rest : List ℕ) → Stops rest → behind colon read rest ≡ Ok (0, rest)
behind-colon read [] h = refl
behind-colon read (c ∷ rest) h = rw h.1 refl

behind-full_stop : (read : List ℕ → Result (ℕ × List ℕ) TimeError) (rest : List ℕ) → Stops rest → behind full_stop read rest ≡ Ok (0, rest)
behind-full_stop read [] h = refl
behind-full_stop read (c ∷ rest) h = rw h.2 refl

digit_or_zero-none : (rest : List ℕ) → NoDigit rest → digit_or_zero rest ≡ (0, rest)
digit_or_zero-none [] h = refl
digit_or_zero-none (c ∷ rest) h = rw h refl

digit_or_zero-digit : (c : ℕ) (rest : List ℕ) → is_digit c ≡ true → digit_or_zero (c ∷ rest) ≡ (c - 48, rest)
digit_or_zero-digit c rest h = rw h refl

pub behind_digits-none : (most : ℕ) (rest : List ℕ) → NoDigit rest → behind_digits most rest ≡ rest
behind_digits-none zero rest h = behind_digits-zero rest
behind_digits-none (suc most) rest h =
    behind_digits-suc most rest ∙ rw (digit_or_zero-none rest h) (behind_digits-none most rest h)

behind_digits-reads : (most : ℕ) (f rest : List ℕ) → AreDigits f → length f ≤ most → NoDigit rest → behind_digits most (f ++ rest) ≡ rest
behind_digits-reads most [] rest digits long stops = behind_digits-none most rest stops
behind_digits-reads zero (c ∷ f) rest digits long stops = absurd (omega arith)
behind_digits-reads (suc most) (c ∷ f) rest digits long stops =
    let first = both (is_digit c) _ digits in
    behind_digits-suc most (c ∷ f ++ rest) ∙ rw (digit_or_zero-digit c (f ++ rest) first.0) (behind_digits-reads most f rest first.1 (omega arith) stops)

-- ---- the time of day

one_digit-digit : (c : ℕ) (rest : List ℕ) → is_digit c ≡ true → one_digit (c ∷ rest) ≡ Ok (c - 48, rest)
one_digit-digit c rest h = rw h refl

fraction_of-one : (a : ℕ) (rest : List ℕ) → is_digit a ≡ true → NoDigit rest → fraction_of (a ∷ rest) ≡ Ok ((a - 48) * 100 + 0 * 10 + 0, rest)
unfolding fraction_of
fraction_of-one a rest digit stops =
    rw (one_digit-digit a rest digit, digit_or_zero-none rest stops, digit_or_zero-none rest stops, behind_digits-none 6 rest stops) refl

fraction_of-two : (a b : ℕ) (rest : List ℕ) → is_digit a ≡ true → is_digit b ≡ true → NoDigit rest → fraction_of (a ∷ b ∷ rest) ≡ Ok ((a - 48) * 100 + (b - 48) * 10 + 0, rest)
unfolding fraction_of
fraction_of-two a b rest first second stops =
    rw (one_digit-digit a (b ∷ rest) first, digit_or_zero-digit b rest second, digit_or_zero-none rest stops, behind_digits-none 6 rest stops) refl

fraction_of-three : (a b c : ℕ) (f rest : List ℕ) → is_digit a ≡ true → is_digit b ≡ true → is_digit c ≡ true → AreDigits f → length f ≤ 6 → NoDigit rest → fraction_of (a ∷ b ∷ c ∷ f ++ rest) ≡ Ok ((a - 48) * 100 + (b - 48) * 10 + (c - 48), rest)
unfolding fraction_of
fraction_of-three a b c f rest first second third digits long stops =
    rw (one_digit-digit a (b ∷ c ∷ f ++ rest) first, digit_or_zero-digit b (c ∷ f ++ rest) second, digit_or_zero-digit c (f ++ rest) third, behind_digits-reads 6 f rest digits long stops) refl

pub fraction-value : (a b c : ℕ) → number_of (a ∷ b ∷ c ∷ []) ≡ (a - 48) * 100 + (b - 48) * 10 + (c - 48)
fraction-value a b c = omega arith

fraction_of-reads : (f rest : List ℕ) → AreDigits f → 1 ≤ length f → length f ≤ 9 → NoDigit rest → fraction_of (f ++ rest) ≡ Ok (number_of (take 3 (f ++ codes "00")), rest)
fraction_of-reads [] rest digits some long stops = absurd (omega arith)
fraction_of-reads (a ∷ []) rest digits some long stops =
    let first = both (is_digit a) true digits in
    fraction_of-one a rest first.0 stops ∙ rw (fraction-value a 48 48) refl
fraction_of-reads (a ∷ b ∷ []) rest digits some long stops =
    let first = both (is_digit a) (is_digit b && true) digits in
    let second = both (is_digit b) true first.1 in
    fraction_of-two a b rest first.0 second.0 stops ∙ rw (fraction-value a b 48) refl
fraction_of-reads (a ∷ b ∷ c ∷ f) rest digits some long stops =
    let first = both (is_digit a) _ digits in
    let second = both (is_digit b) _ first.1 in
    let third = both (is_digit c) _ second.1 in
    fraction_of-three a b c f rest first.0 second.0 third.0 third.1 (omega arith) stops ∙ rw (fraction-value a b c) refl

minutes_at-within : (hour minute : ℕ) → hour < 24 → minute < 60 → minutes_at hour minute ≡ Ok (hour * 60 + minute)
minutes_at-within hour minute low high = grind (arith, nat_tests)

seconds_at-within : (second millis : ℕ) → second < 60 → seconds_at second millis ≡ Ok (second * 1_000 + millis)
seconds_at-within second millis low = grind (arith, nat_tests)

minutes_of-hour : (h rest : List ℕ) → IsBelow 24 h → Stops rest → minutes_of (h ++ rest) ≡ Ok (number_of h * 60, rest)
unfolding minutes_of
minutes_of-hour h rest hour stops =
    let exact : number_of h * 60 + 0 ≡ number_of h * 60 = omega arith in
    rw (two_digits-reads h rest hour.0, behind-colon two_digits rest stops, minutes_at-within (number_of h) 0 hour.1 (omega arith), exact) refl

minutes_of-minute : (h m rest : List ℕ) → IsBelow 24 h → IsBelow 60 m → minutes_of (h ++ (codes ":" ++ (m ++ rest))) ≡ Ok (number_of h * 60 + number_of m, rest)
unfolding minutes_of
minutes_of-minute h m rest hour minute =
    rw (two_digits-reads h (codes ":" ++ (m ++ rest)) hour.0, two_digits-reads m rest minute.0, minutes_at-within (number_of h) (number_of m) hour.1 minute.1) refl

pub minutes_of-reads : (text rest : List ℕ) (minutes : ℕ) → SpellsMinutes text minutes → Stops rest → minutes_of (text ++ rest) ≡ Ok (minutes, rest)
minutes_of-reads _ rest _ (to_hour h hour) stops = minutes_of-hour h rest hour stops
minutes_of-reads _ rest _ (to_minute h m hour minute) stops = simp append_assoc (minutes_of-minute h m rest hour minute)

seconds_of-whole : (s rest : List ℕ) → IsBelow 60 s → Stops rest → seconds_of (s ++ rest) ≡ Ok (number_of s * 1_000, rest)
unfolding seconds_of
seconds_of-whole s rest second stops =
    let exact : number_of s * 1_000 + 0 ≡ number_of s * 1_000 = omega arith in
    rw (two_digits-reads s rest second.0, behind-full_stop fraction_of rest stops, seconds_at-within (number_of s) 0 second.1, exact) refl

seconds_of-fraction : (s f rest : List ℕ) → IsBelow 60 s → AreDigits f → 1 ≤ length f → length f ≤ 9 → Stops rest → seconds_of (s ++ (codes "." ++ (f ++ rest))) ≡ Ok (number_of s * 1_000 + number_of (take 3 (f ++ codes "00")), rest)
unfolding seconds_of
seconds_of-fraction s f rest second digits some long stops =
    rw (two_digits-reads s (codes "." ++ (f ++ rest)) second.0, fraction_of-reads f rest digits some long (Stops-no_digit rest stops), seconds_at-within (number_of s) (number_of (take 3 (f ++ codes "00"))) second.1) refl

seconds_of-reads : (text rest : List ℕ) (millis : ℕ) → SpellsSeconds text millis → Stops rest → seconds_of (text ++ rest) ≡ Ok (millis, rest)
seconds_of-reads _ rest _ (to_second s second) stops = seconds_of-whole s rest second stops
seconds_of-reads _ rest _ (to_fraction s f second digits some long) stops = simp append_assoc (seconds_of-fraction s f rest second digits some long stops)

-- ---- the zone

shift_of-reads : (text : List ℕ) (minutes : ℕ) → SpellsMinutes text minutes → shift_of text ≡ Ok (minutes * 60_000)
unfolding shift_of
shift_of-reads text minutes h =
    let read : minutes_of text ≡ Ok (minutes, []) = rw append-nil at (minutes_of-reads text [] minutes h tt) in
    rw read refl

zone_of-reads : (text : List ℕ) (offset : ℤ) → SpellsZone text offset → zone_of text ≡ Ok offset
unfolding zone_of
zone_of-reads _ _ unsaid = refl
zone_of-reads _ _ utc = refl
zone_of-reads _ _ (ahead text minutes h) = rw (shift_of-reads text minutes h) refl
zone_of-reads _ _ (late text minutes h) = rw (shift_of-reads text minutes h) refl

zone-stops : (text : List ℕ) (offset : ℤ) → SpellsZone text offset → Stops text
zone-stops _ _ unsaid = tt
zone-stops _ _ utc = (refl, refl, refl)
zone-stops _ _ (ahead text minutes h) = (refl, refl, refl)
zone-stops _ _ (late text minutes h) = (refl, refl, refl)

-- ---- the time of day with its zone

clock_of-minutes : (text zone : List ℕ) (minutes : ℕ) (offset : ℤ) → SpellsMinutes text minutes → SpellsZone zone offset → clock_of (text ++ zone) ≡ Ok (minutes * 60_000, offset)
unfolding clock_of
clock_of-minutes text zone minutes offset h z =
    let stops = zone-stops zone offset z in
    let exact : minutes * 60_000 + 0 ≡ minutes * 60_000 = omega arith in
    rw (minutes_of-reads text zone minutes h stops, behind-colon seconds_of zone stops, zone_of-reads zone offset z, exact) refl

clock_of-seconds : (h m s zone : List ℕ) (millis : ℕ) (offset : ℤ) → IsBelow 24 h → IsBelow 60 m → SpellsSeconds s millis → SpellsZone zone offset → clock_of (h ++ (codes ":" ++ (m ++ (codes ":" ++ (s ++ zone))))) ≡ Ok ((number_of h * 60 + number_of m) * 60_000 + millis, offset)
unfolding clock_of
clock_of-seconds h m s zone millis offset hour minute seconds z =
    rw (minutes_of-minute h m (codes ":" ++ (s ++ zone)) hour minute, seconds_of-reads s zone millis seconds (zone-stops zone offset z), zone_of-reads zone offset z) refl

clock_of-reads : (clock zone : List ℕ) (millis : ℕ) (offset : ℤ) → SpellsClock clock millis → SpellsZone zone offset → clock_of (clock ++ zone) ≡ Ok (millis, offset)
clock_of-reads _ zone _ offset (without_seconds text minutes h) z = clock_of-minutes text zone minutes offset h z
clock_of-reads _ zone _ offset (with_seconds h m s millis hour minute seconds) z = simp append_assoc (clock_of-seconds h m s zone millis offset hour minute seconds z)

clock_behind-nothing : clock_behind [] ≡ Ok (0, pos 0)
unfolding clock_behind
clock_behind-nothing = refl

clock_behind-mark : (mark rest : List ℕ) → IsMark mark → clock_behind (mark ++ rest) ≡ clock_of rest
unfolding clock_behind
clock_behind-mark _ rest letter = refl
clock_behind-mark _ rest space = refl

-- ---- the date

date_of-year : (y : List ℕ) → IsNumeral 4 y → date_of y ≡ Ok (day_number (number_of y) 1 1, [])
unfolding date_of
date_of-year y year =
    let read : four_digits y ≡ Ok (number_of y, []) = rw append-nil at (four_digits-reads y [] year) in
    rw read refl

date_of-month : (y m : List ℕ) (number : ℤ) → IsNumeral 4 y → IsNumeral 2 m → day_of (number_of y) (number_of m) 1 ≡ Ok number → date_of (y ++ (codes "-" ++ m)) ≡ Ok (number, [])
unfolding date_of
date_of-month y m number year month h =
    let read : two_digits m ≡ Ok (number_of m, []) = rw append-nil at (two_digits-reads m [] month) in
    rw (four_digits-reads y (codes "-" ++ m) year, read, h) refl

date_of-day : (y m d rest : List ℕ) (number : ℤ) → IsNumeral 4 y → IsNumeral 2 m → IsNumeral 2 d → day_of (number_of y) (number_of m) (number_of d) ≡ Ok number → date_of (y ++ (codes "-" ++ (m ++ (codes "-" ++ (d ++ rest))))) ≡ Ok (number, rest)
unfolding date_of
date_of-day y m d rest number year month day h =
    rw (four_digits-reads y (codes "-" ++ (m ++ (codes "-" ++ (d ++ rest)))) year, two_digits-reads m (codes "-" ++ (d ++ rest)) month, two_digits-reads d rest day, h) refl

day_of-date : (year month day : ℕ) → is_date year month day ≡ true → day_of year month day ≡ Ok (day_number year month day)
day_of-date year month day h = rw h refl

date_of-reads_day : (text rest : List ℕ) (year month day : ℕ) → SpellsDay text year month day → is_date year month day ≡ true → date_of (text ++ rest) ≡ Ok (day_number year month day, rest)
date_of-reads_day _ rest _ _ _ (to_day y m d year month day) h = simp append_assoc (date_of-day y m d rest _ year month day (day_of-date (number_of y) (number_of m) (number_of d) h))

date_of-reads : (text : List ℕ) (year month day : ℕ) → SpellsDate text year month day → is_date year month day ≡ true → date_of text ≡ Ok (day_number year month day, [])
date_of-reads _ _ _ _ (to_year y year) h = date_of-year y year
date_of-reads _ _ _ _ (to_month y m year month) h = simp append_assoc (date_of-month y m _ year month (day_of-date (number_of y) (number_of m) 1 h))
date_of-reads _ _ _ _ (whole text year month day spelled) h = rw append-nil at (date_of-reads_day text [] year month day spelled h)

-- ---- the instant

instant_of-steps : (text rest : List ℕ) (number : ℤ) (millis : ℕ) (offset : ℤ) → date_of text ≡ Ok (number, rest) → clock_behind rest ≡ Ok (millis, offset) → instant_of text ≡ in_range (time_at number millis offset)
unfolding instant_of
instant_of-steps text rest number millis offset day clock = rw (day, clock) refl

pub instant_of-reads : (text : List ℕ) (t : ℤ) → Spells text t → instant_of text ≡ in_range t
instant_of-reads _ _ (date text year month day spelled is) =
    instant_of-steps text [] _ 0 (pos 0) (date_of-reads text year month day spelled is) clock_behind-nothing
instant_of-reads _ _ (date_and_time text mark clock zone year month day millis offset spelled is marked clock_spelled zone_spelled) =
    let read = date_of-reads_day text (mark ++ (clock ++ zone)) year month day spelled is in
    let regroup : text ++ mark ++ clock ++ zone ≡ text ++ (mark ++ (clock ++ zone)) = simp append_assoc refl in
    rw regroup (instant_of-steps (text ++ (mark ++ (clock ++ zone))) (mark ++ (clock ++ zone)) _ millis offset read (clock_behind-mark mark (clock ++ zone) marked ∙ clock_of-reads clock zone millis offset clock_spelled zone_spelled))
