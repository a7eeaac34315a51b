-- A row of a triangle ends where the next one begins, or the cell for what is beyond. Assumes nothing.
use Rattle.std.proofs.Common.{ℕ, ◌+◌, ◌<◌, ◌≤◌, le_refl, add-mul, arith}
use Rattle.std.proofs.lemmas.Nat.{mul-le}
use Rattle.walkthrough.specs.Shapes.{row_start}
use Rattle.walkthrough.specs.declared.shape.Shape.{Shape}

pub row_end : (s : Shape) (row : ℕ) → row < s.rows → row_start s row + s.columns ≤ row_start s s.rows
row_end s row h = omega (arith, mul-le (row + 1) s.columns s.rows s.columns (omega arith) (le_refl s.columns), add-mul row 1 s.columns)
