-- What is added to the cells of a triangle, and read from them. Assumes nothing.
use Rattle.std.specs.Prelude.{ℕ, cond, List, take, drop, ℤ, pos, ◌+ℤ◌, Some, None, Option, nat_lt, slice_index_or, slice_set}
use Rattle.std.specs.Int.{int_wrap, w64}
use Rattle.walkthrough.specs.Shapes.{row_start}
use Rattle.walkthrough.specs.declared.shape.Shape.{Shape}

-- the cells once an amount is added at one of them; sums wrap modulo 2^64
abbrev pub added_at : List ℤ → ℕ → ℤ → List ℤ
added_at cells index cents = slice_set cells index (int_wrap w64 (slice_index_or cells index (pos 0) +ℤ cents))

-- the cells of a row, none past the last row
abbrev pub row_in : Shape → List ℤ → ℕ → Option (List ℤ)
row_in s cells row = cond (nat_lt row s.rows) (Some (take s.columns (drop (row_start s row) cells))) None
