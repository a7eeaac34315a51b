-- The case reserve that a row of a triangle still has. Assumes nothing.
use Rattle.std.specs.Prelude.{List, length, ℤ, ◌-ℤ◌}
use Rattle.std.specs.Int.{int_wrap, w64}
use Rattle.cube.specs.Figures.{running_sum}

-- what was incurred in all columns, less what was paid in them; sums wrap modulo 2 ^ 64
abbrev pub case_reserve : (paid incurred : List ℤ) → ℤ
case_reserve paid incurred = int_wrap w64 (running_sum incurred (length incurred) -ℤ running_sum paid (length paid))
