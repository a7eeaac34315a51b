use Rattle.std.proofs.Common.{ℕ, ◌+◌, ◌*◌, ◌<◌, ◌≤◌, le_refl, add-mul, arith, rules}
use Rattle.std.proofs.lemmas.Nat.{mul-le}
use Rattle.values.specs.Cohorts.{Meaning}
use Rattle.values.specs.declared.place.Place.TheVariants.{Cell}
use Rattle.cube.specs.declared.measure.Measure.{Measure}
use Rattle.cube.specs.declared.measure.Measure.TheVariants as measure
use Rattle.cube.specs.Sheets.{cell_of, sheet_length}
use Rattle.cube.proofs.figures.row_cells.Goals as goal

-- a row ends where the next one begins, or the cell for what is beyond
in_block : (m : Meaning) (row : ℕ) → row < m.rows → row * m.columns + m.columns ≤ m.rows * m.columns
in_block m row h = omega (arith, mul-le (row + 1) m.columns m.rows m.columns (omega arith) (le_refl m.columns), add-mul row 1 m.columns)

in_sheet : (m : Meaning) (k : Measure) (row : ℕ) → row < m.rows → cell_of m k (Cell row 0) + m.columns ≤ sheet_length m
in_sheet m measure.Paid row h = omega (arith, in_block m row h)
in_sheet m measure.Incurred row h = omega (arith, in_block m row h)
in_sheet m measure.Count row h = omega (arith, in_block m row h)

pub slice_bounds-result-end : goal.slice_bounds-result-end
slice_bounds-result-end g c = let e = in_sheet (g.C.Cohort.meaning c.args.cohort.now) c.args.measure c.args.row (search rules) in search rules
