-- The state that a cube means, by the meanings of its register and its cohort. Assumes nothing.
use Rattle.std.specs.Prelude.{List, ℤ}
use Rattle.values.specs.Cohorts as cohorts
use Rattle.register.specs.Registers as registers
use Rattle.cube.specs.declared.cube.Cube.{Cube}
use Rattle.cube.specs.Calls.{Ledger}
use Rattle.cube.specs.Model.{State}
use Rattle.cube.specs.Runs.{Desk}
use Rattle.cube.specs.declared.ticket.Ticket.{Ticket}

abbrev pub state_of : {R C : Type 0} → (R → registers.Meaning) → (C → cohorts.Meaning) → Cube R C → State
state_of book shape cube = record { book = book cube.register; cohort = shape cube.cohort; mark = cube.mark; draft = cube.draft }

-- with the sheet that is lent to its calls
abbrev pub ledger_of : {R C : Type 0} → (R → registers.Meaning) → (C → cohorts.Meaning) → Cube R C → List ℤ → Ledger
ledger_of book shape cube sheet = record { state = state_of book shape cube; sheet = sheet }

-- and with a drawer of tickets
abbrev pub desk_of : {R C : Type 0} → (R → registers.Meaning) → (C → cohorts.Meaning) → Cube R C → List ℤ → List Ticket → Desk
desk_of book shape cube sheet drawer = record { ledger = ledger_of book shape cube sheet; drawer = drawer }
