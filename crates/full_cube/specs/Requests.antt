-- Rows of requests. Assumes nothing.
use Rattle.std.specs.Prelude.{ℕ, List, Option, length, position, nat_lt}
use Rattle.std.specs.Option.{unwrap_or}
use Rattle.values.specs.declared.day.Day.{Day}
use Rattle.full_cube.specs.declared.request.Request.{Request}

-- the place of the first request that is to be booked after a day, counted from 0
abbrev pub first_after : Day → List Request → Option ℕ
first_after day rs = position (λ r. nat_lt day.number r.booked.number) rs

-- how many requests stand before it, all where there is none
abbrev pub count_until : Day → List Request → ℕ
count_until day rs = unwrap_or (first_after day rs) (length rs)
