-- The triangle of a list of entries: the sum over its standing movements and its opened claims, placed by the claim days in
-- force. Assumes nothing.
use Rattle.std.specs.Prelude.{ℕ, ◌+◌, cond, List, [], ◌∷◌, ◌++◌, map, ℤ, pos, ◌+ℤ◌, Option, ◌==◌}
use Rattle.std.specs.List.{range_with_len}
use Rattle.std.specs.Int.{int_wrap, w64}
use Rattle.values.specs.Cohorts.{Meaning}
use Rattle.values.specs.declared.day.Day.{Day}
use Rattle.register.specs.Entries.{claim_days_in}
use Rattle.register.specs.declared.entry.Entry.{Entry}
use Rattle.cube.specs.declared.terms.Direction.TheVariants.{Added}
use Rattle.cube.specs.Brings.{standing_part, under_days}
use Rattle.cube.specs.Sheets.{Share, sheet_length}

-- what falls into a cell
abbrev pub sum_at : ℕ → List Share → ℤ
sum_at k [] = pos 0
sum_at k (share ∷ shares) = cond (share.cell == k) share.amount (pos 0) +ℤ sum_at k shares

-- a cohort and a value day, or none
module _ (m : Meaning) (valued : Option Day) where
  -- what the entry e numbered n has in the triangle of the list
  abbrev pub triangle_part : List Entry → ℕ → Entry → List Share
  triangle_part es n e = under_days m valued (claim_days_in es e.claim) (λ days. standing_part m valued es days Added n e)

  abbrev pub triangle_from : List Entry → ℕ → List Entry → List Share
  triangle_from es n [] = []
  triangle_from es n (e ∷ rest) = triangle_part es (n + 1) e ++ triangle_from es (n + 1) rest

  abbrev pub triangle : List Entry → List Share
  triangle es = triangle_from es 0 es

  -- the whole sheet: each cell is the sum of what falls into it, modulo 2 ^ 64
  abbrev pub triangle_sheet : List Entry → List ℤ
  triangle_sheet es = map (λ k. int_wrap w64 (sum_at k (triangle es))) (range_with_len 0 (sheet_length m))
