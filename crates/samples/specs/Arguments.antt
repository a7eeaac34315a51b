-- What the arguments of a program name. Assumes nothing.
use Rattle.std.specs.Prelude.{ℕ, ◌≤◌, List}
use Rattle.std.specs.Str.Parse.{IsNumeral, digits_value, without_leading_plus}

-- the number that a text writes in decimal digits
abbrev pub number_of : List ℕ → ℕ
number_of text = digits_value 10 (without_leading_plus text)

-- the text writes a number up to a bound
abbrev pub IsNumberUpTo : (most : ℕ) → List ℕ → Type 0
IsNumberUpTo most text = IsNumeral 10 (without_leading_plus text) × (number_of text ≤ most)
