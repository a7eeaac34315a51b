-- The cells of a triangle of one measure: one for each row and column, row by row, and a last one for what is beyond.
-- Assumes nothing.
use Rattle.std.specs.Prelude.{ℕ, ◌+◌, ◌*◌, cond, ◌&&◌, nat_lt}
use Rattle.values.specs.Cohorts.{Meaning}
use Rattle.values.specs.declared.place.Place.{Place}
use Rattle.values.specs.declared.place.Place.TheVariants.{Cell, Beyond}
use Rattle.walkthrough.specs.declared.shape.Shape.{Shape}

-- the shape that a cohort gives
abbrev pub shape_of : Meaning → Shape
shape_of m = record { rows = m.rows; columns = m.columns }

-- where the cells of a row begin
abbrev pub row_start : Shape → ℕ → ℕ
row_start s row = row * s.columns

-- how many cells there are
abbrev pub cell_count : Shape → ℕ
cell_count s = row_start s s.rows + 1

-- where a place lies among the cells; outside the rows and columns it is beyond
abbrev pub cell_index : Shape → Place → ℕ
cell_index s (Cell row column) = cond (nat_lt row s.rows && nat_lt column s.columns) (row_start s row + column) (row_start s s.rows)
cell_index s Beyond = row_start s s.rows
