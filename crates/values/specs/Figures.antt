-- Worked figures: what the rules give for chosen numbers, a row each. Assumes nothing.
use Rattle.std.specs.Prelude.{ℕ, Bool, true, false, ◌&&◌, List, [], ◌∷◌, pos, Ok, Err, Result, ◌==◌}
use Rattle.values.specs.declared.claim_days.ClaimDays.{ClaimDays}
use Rattle.values.specs.declared.day.Day.{Day}
use Rattle.values.specs.declared.fault.CohortFault.{CohortFault}
use Rattle.values.specs.declared.fault.ValueFault.{ValueFault}
use Rattle.values.specs.declared.period.Anchor.TheVariants.{Occurrence}
use Rattle.values.specs.declared.period.PeriodCohort.{PeriodCohort}
use Rattle.values.specs.declared.place.Place.{Place}
use Rattle.values.specs.declared.place.Place.TheVariants.{Cell, Beyond}
use Rattle.values.specs.Faults.{value_fault_number}
use Rattle.values.specs.Making.{day_of, amount_of, claim_days_of}
use Rattle.values.specs.PeriodCohorts.{period_cohort_of, period_place}

-- each row of the table passes
abbrev pub every : List Bool → Bool
every [] = true
every (row ∷ rows) = row && every rows

abbrev accepted : {V : Type 0} → Result V ValueFault → Bool
accepted (Ok value) = true
accepted (Err fault) = false

abbrev refused_with : {V : Type 0} → ℕ → Result V ValueFault → Bool
refused_with number (Ok value) = false
refused_with number (Err fault) = number == value_fault_number fault

abbrev is_cell : ℕ → ℕ → Place → Bool
is_cell row column (Cell r c) = row == r && column == c
is_cell row column Beyond = false

abbrev is_beyond : Place → Bool
is_beyond (Cell r c) = false
is_beyond Beyond = true

-- a test of where a made cohort places a day, for claim days and a day that were made; it fails where one was refused
abbrev placed : Result PeriodCohort CohortFault → Result ClaimDays ValueFault → Result Day ValueFault → (Place → Bool) → Bool
placed (Ok cohort) (Ok claim) (Ok day) test = test (period_place cohort claim day)
placed (Ok cohort) (Ok claim) (Err fault) test = false
placed (Ok cohort) (Err fault) day test = false
placed (Err fault) claim day test = false

-- a claim whose three days are one
abbrev occurring : ℕ → Result ClaimDays ValueFault
occurring day = claim_days_of day day day

-- forty quarters by forty from January 2020, by occurrence
abbrev quarters : Result PeriodCohort CohortFault
quarters = period_cohort_of Occurrence 3 2020 1 40 40

abbrev pub figures : List Bool
figures =
    accepted (day_of 20000229)
    ∷ accepted (day_of 21991231)
    ∷ refused_with 1 (day_of 19000229)
    ∷ refused_with 1 (day_of 20240230)
    ∷ refused_with 2 (amount_of (pos 100000000001))
    ∷ refused_with 2 (amount_of (pos 0))
    ∷ placed quarters (occurring 20200331) (day_of 20200401) (is_cell 0 1)
    ∷ placed quarters (occurring 20191231) (day_of 20200401) is_beyond
    ∷ []
