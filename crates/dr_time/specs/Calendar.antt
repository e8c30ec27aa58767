-- The proleptic Gregorian calendar of ISO 8601: the Gregorian rules for every year, with a year 0 before the year 1.
use Rattle.std.specs.Prelude.{ℕ, nat_le, zero, suc, ◌+◌, ◌-◌, ◌*◌, ◌/◌, ◌%◌, Bool, not, ◌&&◌, ◌||◌, ◌==◌, if◌then◌else◌, ℤ, pos, ◌+ℤ◌, ◌-ℤ◌, unsigned_abs}
use Rattle.std.specs.Int.{is_in_range}

-- every fourth year, but of the centuries only every fourth
abbrev pub is_leap : ℕ → Bool
is_leap year = (year % 4 == 0) && (not (year % 100 == 0) || (year % 400 == 0))

-- thirty days have September, April, June and November
abbrev pub days_of_month : ℕ → ℕ → ℕ
days_of_month year month =
    if month == 2 then (if is_leap year then 29 else 28)
    else (if (month == 4) || (month == 6) || (month == 9) || (month == 11) then 30 else 31)

-- the calendar has this date
abbrev pub is_date : ℕ → ℕ → ℕ → Bool
is_date year month day = is_in_range 1 12 month && is_in_range 1 (days_of_month year month) day

-- the months are numbered through: January of the year 0 is 0
abbrev pub month_number : ℕ → ℕ → ℕ
month_number year month = 12 * year + (month - 1)

-- the length of a month by its number
abbrev pub month_length : ℕ → ℕ
month_length k = days_of_month (k / 12) (k % 12 + 1)

-- how many days lie between 0000-01-01 and the first day of a month
unfoldable pub days_before : ℕ → ℕ
days_before zero = 0
days_before (suc k) = days_before k + month_length k

-- the last of the months 0 to k that begins not after the day n, where 0000-01-01 is day 0
unfoldable pub last_month : ℕ → ℕ → ℕ
last_month n zero = 0
last_month n (suc k) = if nat_le (days_before (suc k)) n then suc k else last_month n k

-- the number of the month in which that day lies: no month has fewer than 28 days
abbrev pub month_at : ℕ → ℕ
month_at n = last_month n (n / 28)

-- the year, the month and the day of the month of that day
abbrev pub year_at : ℕ → ℕ
year_at n = month_at n / 12

abbrev pub month_of_year_at : ℕ → ℕ
month_of_year_at n = month_at n % 12 + 1

abbrev pub day_of_month_at : ℕ → ℕ
day_of_month_at n = n - days_before (month_at n) + 1

-- how many days lie between 0000-01-01 and 1970-01-01
abbrev pub days_before_1970 : ℕ
days_before_1970 = 719_528

-- the day number of the first day of a month
abbrev pub first_day : ℕ → ℤ
first_day k = pos (days_before k) -ℤ pos days_before_1970

-- the day number of a date: 0 for 1970-01-01, and negative before it
abbrev pub day_number : ℕ → ℕ → ℕ → ℤ
day_number year month day = pos (days_before (month_number year month) + (day - 1)) -ℤ pos days_before_1970

-- how many days lie between 0000-01-01 and the day of a day number
abbrev pub since_year_zero : ℤ → ℕ
since_year_zero number = unsigned_abs (number +ℤ pos days_before_1970)
