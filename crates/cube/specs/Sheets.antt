-- A sheet: the cells of three triangles, one for each measure, and how movements fall into them. Assumes nothing.
use Rattle.std.specs.Prelude.{ℕ, ◌+◌, ◌*◌, List, [], ◌∷◌, ℤ, pos, ◌+ℤ◌, slice_index_or, slice_set}
use Rattle.std.specs.Int.{int_wrap, w64}
use Rattle.values.specs.Cohorts.{Meaning}
use Rattle.values.specs.declared.claim_days.ClaimDays.{ClaimDays}
use Rattle.values.specs.declared.day.Day.{Day}
use Rattle.values.specs.declared.place.Place.{Place}
use Rattle.values.specs.declared.place.Place.TheVariants.{Cell, Beyond}
use Rattle.register.specs.declared.kind.MovementKind.{MovementKind}
use Rattle.register.specs.declared.kind.MovementKind.TheVariants.{Paid, Reserved}
use Rattle.cube.specs.declared.measure.Measure.{Measure}
use Rattle.cube.specs.declared.measure.Measure.TheVariants as measure

-- the cells of one measure: row by row, and a last one for what lies beyond
abbrev pub block : Meaning → ℕ
block m = m.rows * m.columns + 1

abbrev pub sheet_length : Meaning → ℕ
sheet_length m = 3 * block m

-- the block of a measure, counted from 0
abbrev pub measure_index : Measure → ℕ
measure_index measure.Paid = 0
measure_index measure.Incurred = 1
measure_index measure.Count = 2

abbrev pub cell_in_block : Meaning → Place → ℕ
cell_in_block m (Cell row column) = row * m.columns + column
cell_in_block m Beyond = m.rows * m.columns

-- the cell of a measure and a place
abbrev pub cell_of : Meaning → Measure → Place → ℕ
cell_of m k place = measure_index k * block m + cell_in_block m place

-- an amount that falls into a cell
pub record Share : Type 0 where
  pub cell : ℕ
  pub amount : ℤ

-- a payment falls into paid and incurred, a reserve change into incurred only
abbrev pub movement_shares : Meaning → MovementKind → ClaimDays → Day → ℤ → List Share
movement_shares m Paid claim effective amount =
    record { cell = cell_of m measure.Paid (m.place claim effective); amount = amount }
    ∷ record { cell = cell_of m measure.Incurred (m.place claim effective); amount = amount } ∷ []
movement_shares m Reserved claim effective amount = record { cell = cell_of m measure.Incurred (m.place claim effective); amount = amount } ∷ []

-- a claim counts once, at its report day
abbrev pub claim_shares : Meaning → ClaimDays → ℤ → List Share
claim_shares m claim number = record { cell = cell_of m measure.Count (m.place claim claim.report); amount = number } ∷ []

-- cell sums wrap modulo 2 ^ 64
abbrev pub added : List ℤ → Share → List ℤ
added sheet share = slice_set sheet share.cell (int_wrap w64 (slice_index_or sheet share.cell (pos 0) +ℤ share.amount))

abbrev pub added_all : List ℤ → List Share → List ℤ
added_all sheet [] = sheet
added_all sheet (share ∷ shares) = added_all (added sheet share) shares
