-- What a cohort means. Assumes nothing.
use Rattle.std.specs.Prelude.{ℕ, ◌<◌, ◌≤◌, cond, Some, None, Option, nat_lt}
use Rattle.values.specs.declared.claim_days.ClaimDays.{ClaimDays}
use Rattle.values.specs.declared.day.Day.{Day}
use Rattle.values.specs.declared.place.Place.{Place}
use Rattle.values.specs.declared.place.Place.TheVariants.{Cell, Beyond}

-- the shape of a triangle, and where in it a claim with given claim days puts what happens on a further day
pub record Meaning : Type 0 where
  pub rows : ℕ
  pub columns : ℕ
  pub place : ClaimDays → Day → Place

-- the place is a cell of the triangle, or beyond it
abbrev pub Inside : Meaning → Place → Type 0
Inside m (Cell row column) = (row < m.rows) × (column < m.columns)
Inside m Beyond = Unit {0}

pub record Sound (m : Meaning) : Type 0 where
  pub some_rows : 1 ≤ m.rows
  pub few_rows : m.rows ≤ 40
  pub some_columns : 1 ≤ m.columns
  pub few_columns : m.columns ≤ 40
  pub inside : (claim : ClaimDays) (day : Day) → Inside m (m.place claim day)

-- the label of each row, and none past the last
abbrev pub label_in : Meaning → (ℕ → ℕ) → ℕ → Option ℕ
label_in m labels row = cond (nat_lt row m.rows) (Some (labels row)) None
