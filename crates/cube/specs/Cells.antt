-- Adding to the cells of a lent sheet. Assumes nothing.
use Rattle.std.specs.Prelude.{◌≡◌, List}
use Rattle.values.specs.declared.cohort.Cohort.{Ghosts}
use Rattle.cube.specs.declared.sheet.Cells.{Cells}
use Rattle.cube.specs.Sheets.{Share, added_all}

-- the cells are those of the same sheet, with the shares added
pub record Adds {C : Type 0} {cohorts : Ghosts C} (old new : Cells C cohorts) (shares : List Share) : Type 0 where
  pub lent : new.cells.ghost_name ≡ old.cells.ghost_name
  pub cohort : new.cohort.now ≡ old.cohort.now
  pub cells : new.cells.now ≡ added_all old.cells.now shares
