-- Which numbers of cents are amounts. Assumes nothing.
use Rattle.std.specs.Prelude.{Bool, ℤ, unsigned_abs}
use Rattle.values.specs.Calendar.{between}

-- from −100,000,000,000 to 100,000,000,000, without 0
abbrev pub is_amount : ℤ → Bool
is_amount cents = between 1 100000000000 (unsigned_abs cents)
