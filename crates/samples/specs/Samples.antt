-- What is drawn for a book. Assumes nothing.
use Rattle.std.specs.Prelude.{ℕ, ◌+◌, ◌-◌, ◌*◌, ◌/◌, ◌%◌, ◌^◌, max, cond, ℤ, pos, negsuc, ◌==◌}
use Rattle.samples.specs.declared.busiest.Busiest.{Busiest}
use Rattle.samples.specs.declared.busiest.Busiest.TheVariants.{First, Last}

-- a linear congruential generator modulo 2^64
abbrev pub next : ℕ → ℕ
next s = (s * 6364136223846793005 + 1442695040888963407) % 2 ^ 64

-- the number below a bound that a state gives
abbrev pub drawn : (state bound : ℕ) → ℕ
drawn s bound = s / 2 ^ 33 % max bound 1

-- from 1 to 1,000,000 cents by the next number of a state, taken back where the one after it is 0 of 4
abbrev pub amount_drawn : ℕ → ℤ
amount_drawn s = cond (drawn (next (next s)) 4 == 0) (negsuc (drawn (next s) 1000000)) (pos (1 + drawn (next s) 1000000))

abbrev index_in : Busiest → (claims within : ℕ) → ℕ
index_in First claims within = within
index_in Last claims within = claims - 1 - within

-- one of so many claims, counted from 0: where the next number is 0 of 2 any, else one of the busiest tenth
abbrev pub index_drawn : Busiest → (claims state : ℕ) → ℕ
index_drawn busiest claims s = cond (drawn (next s) 2 == 0) (drawn (next (next s)) claims) (index_in busiest claims (drawn (next (next s)) (claims / 10)))

-- the day with a count from the beginning of a year on, over months of 28 days, as year × 10,000 + month × 100 + day of the
-- month; the count comes round after twelve years
abbrev pub day_number : (first_year count : ℕ) → ℕ
day_number year count = (year + count % 4032 / 336) * 10000 + (1 + count % 4032 / 28 % 12) * 100 + 1 + count % 4032 % 28
