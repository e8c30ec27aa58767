-- The words of a line.
use Rattle.std.proofs.Common.{◌≡◌, ◌≢◌, ℕ, ℤ, ◌+◌, ◌<◌, ◌≤◌, ◌^◌, Bool, true, false, List, [], ◌∷◌, ◌++◌, length, get_or, take, drop, Some, None, Result, Ok, Err, All, sym, refl, ap, ◌∙◌, subst, arith, take-append-drop}
use Rattle.std.specs.Prelude.{IfOk, nat_lt, ◌&&◌, if◌then◌else◌}
use Rattle.std.specs.List.{list_all}
use Rattle.std.specs.Char.{is_ascii_digit}
use Rattle.std.specs.Result.{OkIff}
use Rattle.std.specs.Str.{all_ascii_digits, IsUtf8, is_utf8}
use Rattle.std.proofs.lemmas.Bool.{cond-false, ne_eqb, ltb-true, lt-ltb}
use Rattle.std.proofs.lemmas.Fmt.{IsAscii-from_digits}
use Rattle.std.proofs.lemmas.List.{drop_more, get_or-take, length-take-le}
use Rattle.std.proofs.lemmas.List.Elements.{All-head, All-tail, All-from_get_or}
use Rattle.std.proofs.lemmas.Str.{IsUtf8-from_ascii, is_utf8-from_IsUtf8, IsUtf8-from_is_utf8}
use Rattle.dr_time.specs.declared.time_error.TimeError.{TimeError}
use Rattle.dr_time.specs.declared.time_error.TimeError.TheVariants.{BadInstant}
use Rattle.dr_time.specs.Instant.{IsInstant, instant_of}
use Rattle.dr_time.specs.Spelling.{IsRead}
use Rattle.dr_time.proofs.ReadLemmas.{instant_of-read}
use Rattle.dr_time.specs.Spelling.{number_of}
use Rattle.dr_events.proofs.SignedTexts.{own}
use Rattle.dr_requests.specs.declared.command_error.CommandError.TheVariants.{BadCommand}
use Rattle.dr_requests.specs.Request.{instant_in}
use Rattle.dr_requests.specs.Request.{split_word, number_in, or_bad_command}

-- ---- the first word

abbrev NoSpace : ℕ → Type 0
NoSpace b = b ≢ 32

pub split_at : (xs ys : List ℕ) → All NoSpace xs → split_word (xs ++ 32 ∷ ys) ≡ (xs, Some ys)
split_at [] ys none = refl
split_at (x ∷ xs) ys none =
    cond-false _ _ _ (ne_eqb x 32 (All-head NoSpace x xs none)) ∙ ap (λ r. (x ∷ r.0, r.1)) (split_at xs ys (All-tail NoSpace x xs none))

pub split_whole : (xs : List ℕ) → All NoSpace xs → split_word xs ≡ (xs, None)
split_whole [] none = refl
split_whole (x ∷ xs) none =
    cond-false _ _ _ (ne_eqb x 32 (All-head NoSpace x xs none)) ∙ ap (λ r. (x ∷ r.0, r.1)) (split_whole xs (All-tail NoSpace x xs none))

before_all : (xs : List ℕ) (i : ℕ) → i ≤ length xs → ((k : ℕ) → k < i → get_or xs k 0 ≢ 32) → All NoSpace (take i xs)
before_all xs i within reads =
    All-from_get_or NoSpace (take i xs) 0 (λ k inside. let below : k < i = omega (arith, length-take-le i xs within) in subst NoSpace (sym (get_or-take i xs k 0 below)) (reads k below))

pub split_first : (xs : List ℕ) (i : ℕ) → i < length xs → get_or xs i 0 ≡ 32 → ((k : ℕ) → k < i → get_or xs k 0 ≢ 32) → split_word xs ≡ (take i xs, Some (drop (i + 1) xs))
split_first xs i inside here before =
    ap split_word (sym (take-append-drop i xs) ∙ ap (λ l. take i xs ++ l) (drop_more xs i 0 inside ∙ ap (λ b. b ∷ drop (i + 1) xs) here))
    ∙ split_at (take i xs) (drop (i + 1) xs) (before_all xs i (omega arith) before)

pub split_none : (xs : List ℕ) → All NoSpace xs → split_word xs ≡ (xs, None)
split_none xs none = split_whole xs none

-- ---- numbers

pub digits_utf8 : (word : List ℕ) → all_ascii_digits word ≡ true → IsUtf8 word
digits_utf8 word digits = IsUtf8-from_ascii word (IsAscii-from_digits word (own.to word digits))

pub same_digits : (word : List ℕ) → list_all is_ascii_digit word ≡ all_ascii_digits word
same_digits [] = refl
same_digits (c ∷ cs) = ap (λ b. is_ascii_digit c && b) (same_digits cs)

pub no_number : (word : List ℕ) → all_ascii_digits word ≡ false → number_in word ≡ Err BadCommand
no_number [] other = refl
no_number (c ∷ cs) other = rw other refl

-- what is parsed of digits is their number
abbrev pub ReadsNumber : {E : Type 0} → List ℕ → Result ℕ E → Type 0
ReadsNumber word (Ok n) = number_in word ≡ Ok n
ReadsNumber word (Err e) = number_in word ≡ Err BadCommand

pub bounded : {E : Type 0} → (word : List ℕ) (r : Result ℕ E) → all_ascii_digits word ≡ true → OkIff r ((0 < length word) × (number_of word < 2 ^ 64)) (number_of word)
    → ReadsNumber word r
bounded [] (Ok n) digits read = let none : 0 < 0 = read.0.0 in absurd (omega arith)
bounded [] (Err e) digits read = refl
bounded (c ∷ cs) (Ok n) digits read = rw (digits, lt-ltb (number_of (c ∷ cs)) (2 ^ 64) read.0.1, read.1) refl
bounded (c ∷ cs) (Err e) digits read =
    rw digits
    (elim (nat_lt (number_of (c ∷ cs)) (2 ^ 64)) as (λ b. nat_lt (number_of (c ∷ cs)) (2 ^ 64) ≡ b → or_bad_command (if b then Some (number_of (c ∷ cs)) else None) ≡ Err BadCommand)
    [ true ↦ λ t. absurd (read (omega arith, ltb-true (number_of (c ∷ cs)) (2 ^ 64) t)) | false ↦ λ t. refl ] refl)

-- ---- instants

pub instant_spelled : (word : List ℕ) → IsUtf8 word → instant_in word ≡ instant_of word
instant_spelled word text = rw (is_utf8-from_IsUtf8 word text) refl

utf8_test : (word : List ℕ) (b : Bool) → is_utf8 word ≡ b → (IsUtf8 word → ⊥) → b ≡ false
utf8_test word true is other = absurd (other (IsUtf8-from_is_utf8 word is))
utf8_test word false is other = refl

pub instant_unspelled : (word : List ℕ) → (IsUtf8 word → ⊥) → instant_in word ≡ Err BadInstant
instant_unspelled word other = rw (utf8_test word (is_utf8 word) refl other) refl

in_range_by : (text : List ℕ) (r : Result ℤ TimeError) → IsRead text r → IfOk r IsInstant
in_range_by text (Ok t) read = read.1
in_range_by text (Err e) read = tt

pub in_range : (text : List ℕ) → IfOk (instant_of text) IsInstant
in_range text = in_range_by text (instant_of text) (instant_of-read text)
