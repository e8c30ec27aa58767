-- What is read is spelled so.
use Rattle.std.proofs.Common.{◌≡◌, ℕ, zero, suc, ◌+◌, ◌-◌, ◌*◌, ◌<◌, ◌≤◌, nat_lt, ◌==◌, Bool, true, false, ◌&&◌, ◌||◌, ◌⊎◌, inl, inr, if◌then◌else◌, List, [], ◌∷◌, ◌++◌, length, take, codes, Result, Ok, Err, refl, sym, ap, ◌∙◌, arith, append_assoc, ℤ, pos, neg_ℤ, int_le, subst}
use Rattle.std.specs.Prelude.{⊤}
use Rattle.std.proofs.lemmas.List.{append-nil}
use Rattle.std.proofs.lemmas.Int.{ints}
use borrow.Author.Tests.{eqb-true, ltb-true}
use Rattle.dr_base.specs.Reading.{◌>>=◌}
use Rattle.dr_time.specs.declared.time_error.TimeError.{TimeError}
use Rattle.dr_time.specs.declared.time_error.TimeError.TheVariants.{BadInstant, OutOfRange, BadInterval, EndBeforeStart}
use Rattle.dr_time.specs.Calendar.{is_date, day_number}
use Rattle.dr_time.specs.Digits.{is_digit, one_digit, two_digits, four_digits, digit_or_zero, behind_digits, behind, at_end, after}
use Rattle.dr_time.specs.Clock.{colon, full_stop, hyphen, letter_z, minutes_at, seconds_at, minutes_of, fraction_of, seconds_of, shift_of, zone_of, clock_of, clock_behind}
use Rattle.dr_time.specs.Instant.{IsInstant, first_instant, last_instant, in_range, time_at, part_behind, day_of, date_of, instant_of}
use Rattle.dr_time.specs.Spelling.{IsRead, number_of, AreDigits, IsNumeral, IsBelow, SpellsDay, to_day, SpellsDate, to_year, to_month, whole, SpellsMinutes, to_hour, to_minute, SpellsSeconds, to_second, to_fraction, SpellsClock, without_seconds, with_seconds, SpellsZone, unsaid, utc, ahead, late, IsMark, letter, space, Spells, date, date_and_time}
use Rattle.dr_time.proofs.DigitLemmas.{behind_digits-zero, behind_digits-suc}
use Rattle.dr_time.proofs.SpelledLemmas.{both, NoDigit, behind_digits-none, instant_of-reads}

-- what is read satisfies P, and what isn't is no instant
abbrev Sound : {A : Type 0} → (A → Type 0) → Result A TimeError → Type 0
Sound P (Ok x) = P x
Sound P (Err BadInstant) = ⊤
Sound P (Err OutOfRange) = ⊥
Sound P (Err BadInterval) = ⊥
Sound P (Err EndBeforeStart) = ⊥

sound_bind : {A B : Type 0} (P : A → Type 0) (Q : B → Type 0) (r : Result A TimeError) (f : A → Result B TimeError) → Sound P r → ((x : A) → P x → Sound Q (f x)) → Sound Q (r >>= f)
sound_bind P Q (Ok x) f h next = next x h
sound_bind P Q (Err BadInstant) f h next = tt
sound_bind P Q (Err OutOfRange) f h next = absurd h
sound_bind P Q (Err BadInterval) f h next = absurd h
sound_bind P Q (Err EndBeforeStart) f h next = absurd h

-- a value that is made where a test passes
sound_if : {A : Type 0} (P : A → Type 0) (b : Bool) (x : A) → (b ≡ true → P x) → Sound P (if b then Ok x else Err BadInstant)
sound_if P true x h = h refl
sound_if P false x h = tt

-- ---- digits

-- the text begins with digits, and this number and this rest of it
abbrev Numbered : ℕ → List ℕ → ℕ × List ℕ → Type 0
Numbered width text p = (s : List ℕ) × IsNumeral width s × (number_of s ≡ p.0) × (text ≡ s ++ p.1)

two_digits-sound : (text : List ℕ) → Sound (Numbered 2 text) (two_digits text)
two_digits-sound [] = tt
two_digits-sound (a ∷ []) = tt
two_digits-sound (a ∷ b ∷ rest) =
    sound_if (Numbered 2 (a ∷ b ∷ rest)) (is_digit a && is_digit b) ((a - 48) * 10 + (b - 48), rest)
    (λ h. let digits = both (is_digit a) (is_digit b) h in (a ∷ b ∷ [], (rw (digits.0, digits.1) refl, refl), omega arith, refl))

all_digits-append : (s u : List ℕ) → AreDigits s → AreDigits u → AreDigits (s ++ u)
all_digits-append [] u h k = k
all_digits-append (c ∷ s) u h k =
    let first = both (is_digit c) _ h in
    rw (first.0, all_digits-append s u first.1 k) refl

numeral_four : (s u : List ℕ) → IsNumeral 2 s → IsNumeral 2 u → IsNumeral 4 (s ++ u) × (number_of (s ++ u) ≡ number_of s * 100 + number_of u)
numeral_four [] u h k = absurd (omega (arith, h.1))
numeral_four (a ∷ []) u h k = absurd (omega (arith, h.1))
numeral_four (a ∷ b ∷ []) [] h k = absurd (omega (arith, k.1))
numeral_four (a ∷ b ∷ []) (c ∷ []) h k = absurd (omega (arith, k.1))
numeral_four (a ∷ b ∷ []) (c ∷ d ∷ []) h k = ((all_digits-append (a ∷ b ∷ []) (c ∷ d ∷ []) h.0 k.0, refl), omega arith)
numeral_four (a ∷ b ∷ []) (c ∷ d ∷ e ∷ u) h k = absurd (omega (arith, k.1))
numeral_four (a ∷ b ∷ c ∷ s) u h k = absurd (omega (arith, h.1))

four_digits-sound : (text : List ℕ) → Sound (Numbered 4 text) (four_digits text)
unfolding four_digits
four_digits-sound text =
    sound_bind (Numbered 2 text) (Numbered 4 text) (two_digits text) _ (two_digits-sound text)
    (λ high h.
    sound_bind (Numbered 2 high.1) (Numbered 4 text) (two_digits high.1) _ (two_digits-sound high.1)
    (λ low k.
    let four = numeral_four h.0 k.0 h.1 k.1 in
    (h.0 ++ k.0, four.0, rw (four.1, h.2, k.2) refl, h.3 ∙ rw k.3 (simp append_assoc refl))))

-- ---- optional parts

-- the text goes on with another character, or not at all
abbrev GoesOnWithout : ℕ → List ℕ → Type 0
GoesOnWithout mark [] = ⊤
GoesOnWithout mark (c ∷ rest) = (c == mark) ≡ false

abbrev Optional : ℕ → (List ℕ → ℕ × List ℕ → Type 0) → List ℕ → ℕ × List ℕ → Type 0
Optional mark P text p =
    ((p.0 ≡ 0) × (p.1 ≡ text) × GoesOnWithout mark text) ⊎ ((rest : List ℕ) × (text ≡ mark ∷ rest) × P rest p)

behind-sound : (mark : ℕ) (P : List ℕ → ℕ × List ℕ → Type 0) (read : List ℕ → Result (ℕ × List ℕ) TimeError) → ((text : List ℕ) → Sound (P text) (read text)) → (text : List ℕ) → Sound (Optional mark P text) (behind mark read text)
behind-sound mark P read sound [] = inl (refl, refl, tt)
behind-sound mark P read sound (c ∷ rest) = at (c == mark) refl
  where
    widen : (r : Result (ℕ × List ℕ) TimeError) → c ≡ mark → Sound (P rest) r → Sound (Optional mark P (c ∷ rest)) r
    widen (Ok p) is h = inr (rest, ap (λ x. x ∷ rest) is, h)
    widen (Err BadInstant) is h = tt
    widen (Err OutOfRange) is h = absurd h
    widen (Err BadInterval) is h = absurd h
    widen (Err EndBeforeStart) is h = absurd h

    at : (b : Bool) → (c == mark) ≡ b → Sound (Optional mark P (c ∷ rest)) (if b then read rest else Ok (0, c ∷ rest))
    at true is = widen (read rest) (eqb-true c mark is) (sound rest)
    at false is = inl (refl, refl, is)

-- ---- hours and minutes

-- an hour alone, behind which no colon stands, or an hour and a minute
abbrev Minuted : List ℕ → ℕ × List ℕ → Type 0
Minuted text p =
    ((h : List ℕ) × IsBelow 24 h × (number_of h * 60 ≡ p.0) × (text ≡ h ++ p.1) × GoesOnWithout colon p.1)
    ⊎ ((h : List ℕ) × (m : List ℕ) × IsBelow 24 h × IsBelow 60 m × (number_of h * 60 + number_of m ≡ p.0) × (text ≡ h ++ codes ":" ++ m ++ p.1))

below : (a b n m : ℕ) → nat_lt a n && nat_lt b m ≡ true → (a < n) × (b < m)
below a b n m h = let k = both (nat_lt a n) (nat_lt b m) h in (ltb-true a n k.0, ltb-true b m k.1)

minuted : (text : List ℕ) (hour minute : ℕ × List ℕ) → Numbered 2 text hour → Optional colon (Numbered 2) hour.1 minute → hour.0 < 24 → minute.0 < 60 → Minuted text (hour.0 * 60 + minute.0, minute.1)
minuted text hour minute (h, is, value, text_is) (inl (none, same, without)) low high =
    inl (h, (is, omega arith), omega arith, text_is ∙ rw same refl, rw same without)
minuted text hour minute (h, is, value, text_is) (inr (rest, goes_on, (m, minute_is, minute_value, rest_is))) low high =
    inr (h, m, (is, omega arith), (minute_is, omega arith), omega arith, text_is ∙ rw (goes_on, rest_is) (simp append_assoc refl))

minutes_of-sound : (text : List ℕ) → Sound (Minuted text) (minutes_of text)
unfolding minutes_of
minutes_of-sound text =
    sound_bind (Numbered 2 text) (Minuted text) (two_digits text) _ (two_digits-sound text)
    (λ hour h.
    sound_bind (Optional colon (Numbered 2) hour.1) (Minuted text) (behind colon two_digits hour.1) _ (behind-sound colon (Numbered 2) two_digits two_digits-sound hour.1)
    (λ minute m.
    sound_bind (λ n. (hour.0 < 24) × (minute.0 < 60) × (n ≡ hour.0 * 60 + minute.0)) (Minuted text) (minutes_at hour.0 minute.0) _
    (sound_if _ (nat_lt hour.0 24 && nat_lt minute.0 60) (hour.0 * 60 + minute.0) (λ t. let k = below hour.0 minute.0 24 60 t in (k.0, k.1, refl)))
    (λ n k. rw k.2 (minuted text hour minute h m k.0 k.1))))

-- ---- seconds

abbrev OneOrNone : List ℕ → ℕ × List ℕ → Type 0
OneOrNone text p =
    ((p.0 ≡ 0) × (p.1 ≡ text) × NoDigit text) ⊎ ((a : ℕ) × (is_digit a ≡ true) × (a - 48 ≡ p.0) × (text ≡ a ∷ p.1))

digit_or_zero-split : (text : List ℕ) → OneOrNone text (digit_or_zero text)
digit_or_zero-split [] = inl (refl, refl, tt)
digit_or_zero-split (c ∷ rest) = at (is_digit c) refl
  where
    at : (b : Bool) → is_digit c ≡ b → OneOrNone (c ∷ rest) (if b then (c - 48, rest) else (0, c ∷ rest))
    at true is = inr (c, is, refl, refl)
    at false is = inl (refl, refl, is)

one_digit-sound : (text : List ℕ) → Sound (λ p. (a : ℕ) × (is_digit a ≡ true) × (a - 48 ≡ p.0) × (text ≡ a ∷ p.1)) (one_digit text)
one_digit-sound [] = tt
one_digit-sound (c ∷ rest) =
    sound_if (λ p. (a : ℕ) × (is_digit a ≡ true) × (a - 48 ≡ p.0) × (c ∷ rest ≡ a ∷ p.1)) (is_digit c) (c - 48, rest) (λ h. (c, h, refl, refl))

-- the digits that were passed over
abbrev Passed : ℕ → List ℕ → List ℕ → Type 0
Passed most text rest = (f : List ℕ) × AreDigits f × (length f ≤ most) × (text ≡ f ++ rest)

behind_digits-split : (most : ℕ) (text : List ℕ) → Passed most text (behind_digits most text)
behind_digits-split zero text = ([], refl, omega arith, sym (behind_digits-zero text))
behind_digits-split (suc most) [] = rw (behind_digits-suc most []) (one_more (behind_digits-split most []))
  where
    one_more : {rest : List ℕ} → Passed most [] rest → Passed (suc most) [] rest
    one_more (f, digits, long, is) = (f, digits, omega arith, is)
behind_digits-split (suc most) (c ∷ text) = rw (behind_digits-suc most (c ∷ text)) (at (is_digit c) refl (behind_digits-split most text) (behind_digits-split most (c ∷ text)))
  where
    at : (b : Bool) → is_digit c ≡ b → Passed most text (behind_digits most text) → Passed most (c ∷ text) (behind_digits most (c ∷ text)) → Passed (suc most) (c ∷ text) (behind_digits most (if◌then◌else◌ {A = ℕ × List ℕ} b (c - 48, text) (0, c ∷ text)).1)
    at true is (f, digits, long, same) here = (c ∷ f, rw (is, digits) refl, omega arith, ap (λ x. c ∷ x) same)
    at false is further (f, digits, long, same) = (f, digits, omega arith, same)

abbrev Fractioned : List ℕ → ℕ × List ℕ → Type 0
Fractioned text p =
    (f : List ℕ) × AreDigits f × (1 ≤ length f) × (length f ≤ 9) × (number_of (take 3 (f ++ codes "00")) ≡ p.0) × (text ≡ f ++ p.1)

fractioned : (text rest : List ℕ) (a : ℕ) (hundredths thousandths : ℕ × List ℕ) → is_digit a ≡ true → text ≡ a ∷ rest → OneOrNone rest hundredths → OneOrNone hundredths.1 thousandths
    → Fractioned text ((a - 48) * 100 + hundredths.0 * 10 + thousandths.0, behind_digits 6 thousandths.1)
fractioned text rest a hundredths thousandths digit is (inl (none, same, stop)) (inl (none', same', stop')) =
    let left : behind_digits 6 thousandths.1 ≡ rest = rw (same', same) (behind_digits-none 6 rest stop) in
    (a ∷ [], rw digit refl, omega arith, omega arith, omega arith, is ∙ rw left refl)
fractioned text rest a hundredths thousandths digit is (inl (none, same, stop)) (inr (c, third, value, goes_on)) =
    let no : NoDigit (c ∷ thousandths.1) = subst NoDigit (sym same ∙ goes_on) stop in
    absurd (cc)
fractioned text rest a hundredths thousandths digit is (inr (b, second, value, goes_on)) (inl (none, same, stop)) =
    let left : behind_digits 6 thousandths.1 ≡ hundredths.1 = rw same (behind_digits-none 6 hundredths.1 stop) in
    (a ∷ b ∷ [], rw (digit, second) refl, omega arith, omega arith, omega arith, is ∙ rw (goes_on, left) refl)
fractioned text rest a hundredths thousandths digit is (inr (b, second, value, goes_on)) (inr (c, third, value', goes_on')) =
    let more = behind_digits-split 6 thousandths.1 in
    (a ∷ b ∷ c ∷ more.0, rw (digit, second, third, more.1) refl, omega arith, omega (arith, more.2), omega arith, is ∙ (rw (goes_on, goes_on') (ap (λ x. a ∷ b ∷ c ∷ x) more.3)))

fraction_of-sound : (text : List ℕ) → Sound (Fractioned text) (fraction_of text)
unfolding fraction_of
fraction_of-sound text =
    sound_bind (λ p. (a : ℕ) × (is_digit a ≡ true) × (a - 48 ≡ p.0) × (text ≡ a ∷ p.1)) (Fractioned text) (one_digit text) _ (one_digit-sound text)
    (λ tenths h.
    rw (← h.2) (fractioned text tenths.1 h.0 (digit_or_zero tenths.1) (digit_or_zero (digit_or_zero tenths.1).1) h.1 h.3 (digit_or_zero-split tenths.1) (digit_or_zero-split (digit_or_zero tenths.1).1)))

abbrev Seconded : List ℕ → ℕ × List ℕ → Type 0
Seconded text p = (s : List ℕ) × SpellsSeconds s p.0 × (text ≡ s ++ p.1)

seconded : (text : List ℕ) (second fraction : ℕ × List ℕ) → Numbered 2 text second → Optional full_stop Fractioned second.1 fraction → second.0 < 60 → Seconded text (second.0 * 1_000 + fraction.0, fraction.1)
seconded text second fraction (s, is, value, text_is) (inl (none, same, without)) low =
    let exact : second.0 * 1_000 + fraction.0 ≡ number_of s * 1_000 = omega arith in
    (s, rw exact (to_second s (is, omega arith)), text_is ∙ rw same refl)
seconded text second fraction (s, is, value, text_is) (inr (rest, goes_on, (f, digits, some, long, millis, rest_is))) low =
    let exact : second.0 * 1_000 + fraction.0 ≡ number_of s * 1_000 + number_of (take 3 (f ++ codes "00")) = omega arith in
    (s ++ codes "." ++ f, rw exact (to_fraction s f (is, omega arith) digits some long), text_is ∙ rw (goes_on, rest_is) (simp append_assoc refl))

seconds_of-sound : (text : List ℕ) → Sound (Seconded text) (seconds_of text)
unfolding seconds_of
seconds_of-sound text =
    sound_bind (Numbered 2 text) (Seconded text) (two_digits text) _ (two_digits-sound text)
    (λ second h.
    sound_bind (Optional full_stop Fractioned second.1) (Seconded text) (behind full_stop fraction_of second.1) _ (behind-sound full_stop Fractioned fraction_of fraction_of-sound second.1)
    (λ fraction f.
    sound_bind (λ n. (second.0 < 60) × (n ≡ second.0 * 1_000 + fraction.0)) (Seconded text) (seconds_at second.0 fraction.0) _
    (sound_if _ (nat_lt second.0 60) (second.0 * 1_000 + fraction.0) (λ t. (ltb-true second.0 60 t, refl)))
    (λ n k. rw k.1 (seconded text second fraction h f k.0))))

-- ---- the zone

SpellsMinutes-of : (text : List ℕ) (n : ℕ) → Minuted text (n, []) → SpellsMinutes text n
SpellsMinutes-of text n (inl (h, hour, value, is, without)) = rw (is, append-nil, ← value) (to_hour h hour)
SpellsMinutes-of text n (inr (h, m, hour, minute, value, is)) = rw (is, append-nil, ← value) (to_minute h m hour minute)

abbrev Shifted : List ℕ → ℕ → Type 0
Shifted text millis = (minutes : ℕ) × SpellsMinutes text minutes × (minutes * 60_000 ≡ millis)

shifted : (text : List ℕ) (p : ℕ × List ℕ) → Minuted text p → Sound (Shifted text) (at_end (p.0 * 60_000) p.1)
shifted text (n, []) h = (n, SpellsMinutes-of text n h, refl)
shifted text (n, c ∷ rest) h = tt

shift_of-sound : (text : List ℕ) → Sound (Shifted text) (shift_of text)
unfolding shift_of
shift_of-sound text =
    sound_bind (Minuted text) (Shifted text) (minutes_of text) _ (minutes_of-sound text) (λ p h. shifted text p h)

zone_of-sound : (text : List ℕ) → Sound (SpellsZone text) (zone_of text)
unfolding zone_of
zone_of-sound [] = unsaid
zone_of-sound (c ∷ rest) = at (c == letter_z) refl (c == 43) refl (c == 45) refl
  where
    ended : (text : List ℕ) → c ≡ 90 → Sound (SpellsZone (c ∷ text)) (at_end (pos 0) text)
    ended [] is = rw is utc
    ended (d ∷ text) is = tt

    at : (z : Bool) → (c == 90) ≡ z → (p : Bool) → (c == 43) ≡ p → (m : Bool) → (c == 45) ≡ m → Sound (SpellsZone (c ∷ rest))
        (if z then at_end (pos 0) rest else (if p then (shift_of rest >>= (λ shift. Ok (pos shift))) else (if m then (shift_of rest >>= (λ shift. Ok (neg_ℤ (pos shift)))) else Err BadInstant)))
    at true is p _ m _ = ended rest (eqb-true c 90 is)
    at false _ true is m _ =
        let here : c ≡ 43 = eqb-true c 43 is in
        sound_bind (Shifted rest) (SpellsZone (c ∷ rest)) (shift_of rest) _ (shift_of-sound rest) (λ millis h. rw (here, ← h.2) (ahead rest h.0 h.1))
    at false _ false _ true is =
        let here : c ≡ 45 = eqb-true c 45 is in
        sound_bind (Shifted rest) (SpellsZone (c ∷ rest)) (shift_of rest) _ (shift_of-sound rest) (λ millis h. rw (here, ← h.2) (late rest h.0 h.1))
    at false _ false _ false _ = tt

-- ---- the time of day with its zone

abbrev Clocked : List ℕ → ℕ × ℤ → Type 0
Clocked text p = (clock : List ℕ) × (zone : List ℕ) × SpellsClock clock p.0 × SpellsZone zone p.1 × (text ≡ clock ++ zone)

clocked : (text : List ℕ) (minutes seconds : ℕ × List ℕ) (offset : ℤ) → Minuted text minutes → Optional colon Seconded minutes.1 seconds → SpellsZone seconds.1 offset → Clocked text (minutes.0 * 60_000 + seconds.0, offset)
clocked text minutes seconds offset (inl (h, hour, value, is, without)) (inl (none, same, stop)) z =
    let exact : minutes.0 * 60_000 + seconds.0 ≡ number_of h * 60 * 60_000 = omega arith in
    (h, seconds.1, rw exact (without_seconds h (number_of h * 60) (to_hour h hour)), z, is ∙ rw same refl)
clocked text minutes seconds offset (inl (h, hour, value, is, without)) (inr (rest, goes_on, s)) z =
    let no : GoesOnWithout colon (colon ∷ rest) = subst (GoesOnWithout colon) goes_on without in
    absurd (cc)
clocked text minutes seconds offset (inr (h, m, hour, minute, value, is)) (inl (none, same, stop)) z =
    let exact : minutes.0 * 60_000 + seconds.0 ≡ (number_of h * 60 + number_of m) * 60_000 = omega arith in
    (h ++ codes ":" ++ m, seconds.1, rw exact (without_seconds (h ++ codes ":" ++ m) (number_of h * 60 + number_of m) (to_minute h m hour minute)), z, is ∙ rw same refl)
clocked text minutes seconds offset (inr (h, m, hour, minute, value, is)) (inr (rest, goes_on, (s, second, rest_is))) z =
    let exact : minutes.0 * 60_000 + seconds.0 ≡ (number_of h * 60 + number_of m) * 60_000 + seconds.0 = omega arith in
    (h ++ codes ":" ++ m ++ codes ":" ++ s, seconds.1, rw exact (with_seconds h m s seconds.0 hour minute second), z, is ∙ rw (goes_on, rest_is) (simp append_assoc refl))

clock_of-sound : (text : List ℕ) → Sound (Clocked text) (clock_of text)
unfolding clock_of
clock_of-sound text =
    sound_bind (Minuted text) (Clocked text) (minutes_of text) _ (minutes_of-sound text)
    (λ minutes h.
    sound_bind (Optional colon Seconded minutes.1) (Clocked text) (behind colon seconds_of minutes.1) _ (behind-sound colon Seconded seconds_of seconds_of-sound minutes.1)
    (λ seconds s.
    sound_bind (SpellsZone seconds.1) (Clocked text) (zone_of seconds.1) _ (zone_of-sound seconds.1)
    (λ offset z. clocked text minutes seconds offset h s z)))

-- nothing, or a mark, a time of day and a zone
abbrev ClockedBehind : List ℕ → ℕ × ℤ → Type 0
ClockedBehind text p =
    ((text ≡ []) × (p.0 ≡ 0) × (p.1 ≡ pos 0)) ⊎ ((mark : List ℕ) × (rest : List ℕ) × IsMark mark × Clocked rest p × (text ≡ mark ++ rest))

clock_behind-sound : (text : List ℕ) → Sound (ClockedBehind text) (clock_behind text)
unfolding clock_behind
clock_behind-sound [] = inl (refl, refl, refl)
clock_behind-sound (c ∷ rest) = at (c == 84) refl (c == 32) refl
  where
    widen : (r : Result (ℕ × ℤ) TimeError) (mark : List ℕ) → IsMark mark → c ∷ rest ≡ mark ++ rest → Sound (Clocked rest) r → Sound (ClockedBehind (c ∷ rest)) r
    widen (Ok p) mark marked is h = inr (mark, rest, marked, h, is)
    widen (Err BadInstant) mark marked is h = tt
    widen (Err OutOfRange) mark marked is h = absurd h
    widen (Err BadInterval) mark marked is h = absurd h
    widen (Err EndBeforeStart) mark marked is h = absurd h

    at : (t : Bool) → (c == 84) ≡ t → (s : Bool) → (c == 32) ≡ s → Sound (ClockedBehind (c ∷ rest)) (if t || s then clock_of rest else Err BadInstant)
    at true is s _ = widen (clock_of rest) (codes "T") letter (ap (λ x. x ∷ rest) (eqb-true c 84 is)) (clock_of-sound rest)
    at false _ true is = widen (clock_of rest) (codes " ") space (ap (λ x. x ∷ rest) (eqb-true c 32 is)) (clock_of-sound rest)
    at false _ false _ = tt

-- ---- the date

abbrev Parted : List ℕ → ℕ × List ℕ → Type 0
Parted text p =
    ((text ≡ []) × (p.0 ≡ 1) × (p.1 ≡ [])) ⊎ ((m : List ℕ) × IsNumeral 2 m × (number_of m ≡ p.0) × (text ≡ codes "-" ++ m ++ p.1))

part_behind-sound : (text : List ℕ) → Sound (Parted text) (part_behind text)
part_behind-sound [] = inl (refl, refl, refl)
part_behind-sound (c ∷ rest) =
    sound_bind (λ r. (c ≡ hyphen) × (r ≡ rest)) (Parted (c ∷ rest)) (after hyphen (c ∷ rest)) two_digits
    (sound_if _ (c == hyphen) rest (λ h. (eqb-true c hyphen h, refl)))
    (λ r h. rw h.1 (widen (two_digits rest) h.0 (two_digits-sound rest)))
  where
    widen : (r : Result (ℕ × List ℕ) TimeError) → c ≡ hyphen → Sound (Numbered 2 rest) r → Sound (Parted (c ∷ rest)) r
    widen (Ok p) is (m, numeral, value, same) = inr (m, numeral, value, rw (is, same) refl)
    widen (Err BadInstant) is h = tt
    widen (Err OutOfRange) is h = absurd h
    widen (Err BadInterval) is h = absurd h
    widen (Err EndBeforeStart) is h = absurd h

-- a date that ends the text, or a whole one with a text behind
abbrev Dated : List ℕ → ℕ → ℕ → ℕ → List ℕ → Type 0
Dated text year month day rest =
    (SpellsDate text year month day × (rest ≡ [])) ⊎ ((s : List ℕ) × SpellsDay s year month day × (text ≡ s ++ rest))

dated : (text : List ℕ) (year month day : ℕ × List ℕ) → Numbered 4 text year → Parted year.1 month → Parted month.1 day → Dated text year.0 month.0 day.0 day.1
dated text year month day (y, is, value, text_is) (inl (none, first, left)) (inl (none', first', left')) =
    let same : text ≡ y = text_is ∙ rw (none, append-nil) refl in
    inl (rw (same, ← value, first, first') (to_year y is), left')
dated text year month day (y, is, value, text_is) (inl (none, first, left)) (inr (d, numeral, number, goes_on)) = absurd (cc)
dated text year month day (y, is, value, text_is) (inr (m, numeral, number, goes_on)) (inl (none, first, left)) =
    let same : text ≡ y ++ codes "-" ++ m = text_is ∙ rw (goes_on, none) (simp append_assoc (ap (λ x. y ++ (codes "-" ++ x)) (append-nil m))) in
    inl (rw (same, ← value, ← number, first) (to_month y m is numeral), left)
dated text year month day (y, is, value, text_is) (inr (m, numeral, number, goes_on)) (inr (d, numeral', number', goes_on')) =
    let same : text ≡ y ++ codes "-" ++ m ++ codes "-" ++ d ++ day.1 = text_is ∙ rw (goes_on, goes_on') (simp append_assoc refl) in
    inr (y ++ codes "-" ++ m ++ codes "-" ++ d, rw (← value, ← number, ← number') (to_day y m d is numeral numeral'), same)

abbrev DatedAt : List ℕ → ℤ × List ℕ → Type 0
DatedAt text p =
    (year : ℕ) × (month : ℕ) × (day : ℕ) × (is_date year month day ≡ true) × (p.0 ≡ day_number year month day) × Dated text year month day p.1

date_of-sound : (text : List ℕ) → Sound (DatedAt text) (date_of text)
unfolding date_of
date_of-sound text =
    sound_bind (Numbered 4 text) (DatedAt text) (four_digits text) _ (four_digits-sound text)
    (λ year y.
    sound_bind (Parted year.1) (DatedAt text) (part_behind year.1) _ (part_behind-sound year.1)
    (λ month m.
    sound_bind (Parted month.1) (DatedAt text) (part_behind month.1) _ (part_behind-sound month.1)
    (λ day d.
    sound_bind (λ n. (is_date year.0 month.0 day.0 ≡ true) × (n ≡ day_number year.0 month.0 day.0)) (DatedAt text) (day_of year.0 month.0 day.0) _
    (sound_if _ (is_date year.0 month.0 day.0) (day_number year.0 month.0 day.0) (λ h. (h, refl)))
    (λ n k. (year.0, month.0, day.0, k.0, k.1, dated text year month day y m d)))))

-- ---- the instant

-- what is read, but for what is said of a text that is no instant
abbrev Almost : List ℕ → Result ℤ TimeError → Type 0
Almost text (Ok t) = Spells text t × IsInstant t
Almost text (Err BadInstant) = ⊤
Almost text (Err OutOfRange) = (t : ℤ) × Spells text t × (IsInstant t → ⊥)
Almost text (Err BadInterval) = ⊥
Almost text (Err EndBeforeStart) = ⊥

almost_bind : {A : Type 0} (P : A → Type 0) (text : List ℕ) (r : Result A TimeError) (f : A → Result ℤ TimeError) → Sound P r → ((x : A) → P x → Almost text (f x)) → Almost text (r >>= f)
almost_bind P text (Ok x) f h next = next x h
almost_bind P text (Err BadInstant) f h next = tt
almost_bind P text (Err OutOfRange) f h next = absurd h
almost_bind P text (Err BadInterval) f h next = absurd h
almost_bind P text (Err EndBeforeStart) f h next = absurd h

IsInstant-in : (t : ℤ) → int_le first_instant t && int_le t last_instant ≡ true → IsInstant t
IsInstant-in t h = grind (arith, ints)

IsInstant-out : (t : ℤ) → int_le first_instant t && int_le t last_instant ≡ false → IsInstant t → ⊥
IsInstant-out t h within = grind (arith, ints)

almost-in_range : (text : List ℕ) (t : ℤ) → Spells text t → Almost text (in_range t)
almost-in_range text t spelled = at (int_le first_instant t && int_le t last_instant) refl
  where
    at : (b : Bool) → int_le first_instant t && int_le t last_instant ≡ b → Almost text (if b then Ok t else Err OutOfRange)
    at true is = (spelled, IsInstant-in t is)
    at false is = (t, spelled, IsInstant-out t is)

spelled-of : (text rest : List ℕ) (year month day : ℕ) (number : ℤ) (clock : ℕ × ℤ) → is_date year month day ≡ true → number ≡ day_number year month day → Dated text year month day rest → ClockedBehind rest clock → Spells text (time_at number clock.0 clock.1)
spelled-of text rest year month day number clock is value (inl (spelled, none)) (inl (ended, midnight, utc')) =
    rw (value, midnight, utc') (date text year month day spelled is)
spelled-of text rest year month day number clock is value (inl (spelled, none)) (inr (_, more, letter, clocked', goes_on)) = absurd (cc)
spelled-of text rest year month day number clock is value (inl (spelled, none)) (inr (_, more, space, clocked', goes_on)) = absurd (cc)
spelled-of text rest year month day number clock is value (inr (s, spelled, same)) (inl (ended, midnight, utc')) =
    let same_text : text ≡ s = same ∙ rw (ended, append-nil) refl in
    rw (value, midnight, utc', same_text) (date s year month day (whole s year month day spelled) is)
spelled-of text rest year month day number clock is value (inr (s, spelled, same)) (inr (mark, more, marked, (c, z, clock_spelled, zone_spelled, more_is), goes_on)) =
    let same_text : text ≡ s ++ mark ++ c ++ z = same ∙ rw (goes_on, more_is) (simp append_assoc refl) in
    rw (value, same_text) (date_and_time s mark c z year month day clock.0 clock.1 spelled is marked clock_spelled zone_spelled)

almost : (text : List ℕ) → Almost text (instant_of text)
unfolding instant_of
almost text =
    almost_bind (DatedAt text) text (date_of text) _ (date_of-sound text)
    (λ d h.
    almost_bind (ClockedBehind d.1) text (clock_behind d.1) _ (clock_behind-sound d.1)
    (λ clock k. almost-in_range text (time_at d.0 clock.0 clock.1) (spelled-of text d.1 h.0 h.1 h.2 d.0 clock h.3 h.4 h.5 k)))

in_range-not_bad : (t : ℤ) → in_range t ≡ Err BadInstant → ⊥
in_range-not_bad t = at (int_le first_instant t && int_le t last_instant)
  where
    at : (b : Bool) → (if b then Ok t else Err OutOfRange) ≡ Err BadInstant → ⊥
    at true h = absurd (cc)
    at false h = absurd (cc)

IsRead-almost : (text : List ℕ) (r : Result ℤ TimeError) → instant_of text ≡ r → Almost text r → IsRead text r
IsRead-almost text (Ok t) is h = h
IsRead-almost text (Err BadInstant) is h = λ t spelled. in_range-not_bad t (sym (instant_of-reads text t spelled) ∙ is)
IsRead-almost text (Err OutOfRange) is h = h
IsRead-almost text (Err BadInterval) is h = h
IsRead-almost text (Err EndBeforeStart) is h = h

pub instant_of-read : (text : List ℕ) → IsRead text (instant_of text)
instant_of-read text = IsRead-almost text (instant_of text) refl (almost text)
