-- How sums of money are written. Assumes nothing.
use Rattle.std.specs.Prelude.{ℕ, zero, suc, ◌/◌, ◌%◌, ◌-◌, List, ◌∷◌, ◌++◌, length, replicate, ℤ, codes, if◌then◌else◌, nat_lt, unsigned_abs}
use Rattle.std.specs.Fmt.{decimal, sign_text}
use Rattle.std.specs.Int.{is_negative}

-- the decimal digits of a number, with zeros before them up to a width
abbrev pub zero_padded : (width n : ℕ) → List ℕ
zero_padded width n = replicate (width - length (decimal n)) 48 ++ decimal n

-- a number with a comma before each of its last groups of three digits
unfoldable pub grouped_within : (groups n : ℕ) → List ℕ
grouped_within zero n = decimal n
grouped_within (suc groups) n = if nat_lt n 1000 then decimal n else grouped_within groups (n / 1000) ++ (44 ∷ zero_padded 3 (n % 1000))

-- a number below 2 ^ 64 with a comma before every third digit
abbrev pub grouped_text : ℕ → List ℕ
grouped_text n = grouped_within 6 n

-- cents as a sum of money: the sign, the units, a point, and two digits of cents
abbrev pub money_text : ℤ → List ℕ
money_text cents = sign_text (is_negative cents) ++ (grouped_text (unsigned_abs cents / 100) ++ (codes "." ++ zero_padded 2 (unsigned_abs cents % 100)))
