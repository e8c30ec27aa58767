-- What follows from the definitions of this crate.
use Rattle.std.specs.Prelude.{◌≡◌, ℕ, Bool, true, false, ◌&&◌, List, ℤ, pos, ◌≤ℤ◌, int_le, Option, Some, None, Ok}
use Rattle.dr_time.specs.declared.interval.Interval.{Interval}
use Rattle.dr_time.specs.Calendar.{is_date, day_number}
use Rattle.dr_time.specs.Instant.{IsInstant, in_range, instant_of}
use Rattle.dr_time.specs.Printed.{instant_text}
use Rattle.dr_time.specs.Spelling.{Spells, IsRead}
use Rattle.dr_time.specs.Union.{union_holds, union_start, union_first_from}

-- the days are counted from 1970-01-01
abbrev pub CountsFrom1970 : Type 0
CountsFrom1970 = day_number 1970 1 1 ≡ pos 0

-- two dates that the calendar has, with one day number, are one date
abbrev pub NumbersOneDate : Type 0
NumbersOneDate =
    (y m d year month day : ℕ) → is_date y m d ≡ true → is_date year month day ≡ true
    → day_number y m d ≡ day_number year month day → (y ≡ year) × (m ≡ month) × (d ≡ day)

-- what is read of a text is spelled by it
abbrev pub ReadsTheSpelled : Type 0
ReadsTheSpelled = (text : List ℕ) → IsRead text (instant_of text)

-- whatever a text spells is read of it
abbrev pub ReadsAllSpelled : Type 0
ReadsAllSpelled = (text : List ℕ) (t : ℤ) → Spells text t → instant_of text ≡ in_range t

-- what is printed of an instant is a text of that instant
abbrev pub ReadsBack : Type 0
ReadsBack = (t : ℤ) → IsInstant t → instant_of (instant_text t) ≡ Ok t

-- the first of the times that pass a test; none where none passes
abbrev pub IsFirstTime : (ℤ → Bool) → Option ℤ → Type 0
IsFirstTime test None = (t : ℤ) → test t ≡ false
IsFirstTime test (Some first) = (test first ≡ true) × ((t : ℤ) → test t ≡ true → first ≤ℤ t)

-- the start of a union is its first time
abbrev pub StartsAtFirst : Type 0
StartsAtFirst = (intervals : List Interval) → IsFirstTime (union_holds intervals) (union_start intervals)

-- and so it is for the times that aren't before a given one
abbrev pub FindsFirst : Type 0
FindsFirst =
    (from : ℤ) (intervals : List Interval) → IsFirstTime (λ t. int_le from t && union_holds intervals t) (union_first_from from intervals)
