-- The Gregorian calendar from 1900 to 2199, and a day as one number: year × 10,000 + month × 100 + day of the month.
-- Assumes nothing.
use Rattle.std.specs.Prelude.{ℕ, ◌+◌, ◌-◌, ◌*◌, ◌/◌, ◌%◌, Bool, cond, not, ◌&&◌, ◌||◌, ◌==◌, nat_le}

-- every fourth year is a leap year, but of the years that end a century only every fourth
abbrev pub leap_year : ℕ → Bool
leap_year year = year % 4 == 0 && (not (year % 100 == 0) || year % 400 == 0)

-- February has 28 or 29 days; April, June, September and November have 30; the others have 31
abbrev pub month_length : ℕ → ℕ → ℕ
month_length year month = cond (month == 2) (cond (leap_year year) 29 28) (cond (month == 4 || month == 6 || month == 9 || month == 11) 30 31)

abbrev pub year_of : ℕ → ℕ
year_of day = day / 10000

abbrev pub month_of : ℕ → ℕ
month_of day = day / 100 % 100

abbrev pub day_of_month : ℕ → ℕ
day_of_month day = day % 100

-- low ≤ n ≤ high
abbrev pub between : ℕ → ℕ → ℕ → Bool
between low high n = nat_le low n && nat_le n high

-- the number is that of a day
abbrev pub is_day : ℕ → Bool
is_day n = between 1900 2199 (year_of n) && (between 1 12 (month_of n) && between 1 (month_length (year_of n) (month_of n)) (day_of_month n))

-- months counted without a break: 12 × year + month − 1
abbrev pub month_number : ℕ → ℕ
month_number day = 12 * year_of day + month_of day - 1
