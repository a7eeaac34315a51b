-- Equal periods of months, and where a month lies among them. Assumes nothing.
use Rattle.std.specs.Prelude.{ℕ, ◌+◌, ◌*◌, ◌/◌, ◌%◌, Bool, cond, ◌||◌, ℤ, pos, negsuc, ◌-ℤ◌, Some, None, Option, ◌==◌, nat_lt}
use Rattle.std.specs.Int.{int_div_euclid}

-- a month, a quarter, a half-year or a year
abbrev pub is_period : ℕ → Bool
is_period months = months == 1 || months == 3 || months == 6 || months == 12

-- z / m rounded down, for m above 0: the quotient that leaves a remainder from 0 to m - 1
abbrev pub floor_div : ℤ → ℕ → ℤ
floor_div z m = int_div_euclid z (pos m)

-- the whole number, if it lies from 0 to below the bound
abbrev pub index_below : ℕ → ℤ → Option ℕ
index_below bound (pos n) = cond (nat_lt n bound) (Some n) None
index_below bound (negsuc n) = None

-- the period in which a month lies, the one that begins with the month `first` being period 0; none at or past the bound
abbrev pub period_index : (bound months first month : ℕ) → Option ℕ
period_index bound months first month = index_below bound (floor_div (pos month -ℤ pos first) months)

-- the month in which a row begins
abbrev pub first_month : (base months row : ℕ) → ℕ
first_month base months row = base + months * row

-- year × 100 + month of a month number
abbrev pub month_label : ℕ → ℕ
month_label month = 100 * (month / 12) + (month % 12 + 1)
