-- What is read from a sheet: the cells of a row, what lies beyond, and running sums. Assumes nothing.
use Rattle.std.specs.Prelude.{ℕ, cond, ◌&&◌, List, map, length, take, drop, ℤ, pos, ◌+ℤ◌, Some, None, fold, Option, ◌==◌, nat_lt, slice_index_or}
use Rattle.std.specs.List.{range_with_len}
use Rattle.std.specs.Int.{int_wrap, w64}
use Rattle.values.specs.Cohorts.{Meaning}
use Rattle.values.specs.declared.place.Place.TheVariants.{Cell, Beyond}
use Rattle.cube.specs.declared.measure.Measure.{Measure}
use Rattle.cube.specs.Sheets.{cell_of, sheet_length}

-- the cells of a measure's row, side by side; none past the last row, and none of a sheet of another length
abbrev pub row_in : Meaning → List ℤ → Measure → (row : ℕ) → Option (List ℤ)
row_in m sheet k row = cond (length sheet == sheet_length m && nat_lt row m.rows) (Some (take m.columns (drop (cell_of m k (Cell row 0)) sheet))) None

-- what a measure has beyond the triangle
abbrev pub beyond_in : Meaning → List ℤ → Measure → Option ℤ
beyond_in m sheet k = cond (length sheet == sheet_length m) (Some (slice_index_or sheet (cell_of m k Beyond) (pos 0))) None

-- the sum of the first n cells; sums wrap modulo 2 ^ 64
abbrev pub running_sum : List ℤ → ℕ → ℤ
running_sum cells n = int_wrap w64 (fold ◌+ℤ◌ (pos 0) (take n cells))

-- the running sums along a row, each of the cells up to its own
abbrev pub running_sums : List ℤ → List ℤ
running_sums cells = map (running_sum cells) (range_with_len 1 (length cells))
