-- The period cohorts: which settings make one, what it means, and its labels. Assumes nothing.
use Rattle.std.specs.Prelude.{ℕ, ◌+◌, ◌-◌, ◌*◌, Some, None, Ok, Option, Result, nat_le}
use Rattle.values.specs.declared.claim_days.ClaimDays.{ClaimDays}
use Rattle.values.specs.declared.day.Day.{Day}
use Rattle.values.specs.declared.fault.CohortFault.{CohortFault}
use Rattle.values.specs.declared.fault.CohortFault.TheVariants.{PeriodLength, BaseYear, BaseMonth, Rows, Columns, Span}
use Rattle.values.specs.declared.period.Anchor.{Anchor}
use Rattle.values.specs.declared.period.Anchor.TheVariants.{Occurrence, Inception, Report}
use Rattle.values.specs.declared.period.PeriodCohort.{PeriodCohort}
use Rattle.values.specs.declared.place.Place.{Place}
use Rattle.values.specs.declared.place.Place.TheVariants.{Cell, Beyond}
use Rattle.values.specs.Calendar.{between, month_number}
use Rattle.values.specs.Cohorts.{Meaning}
use Rattle.values.specs.Making.{provided}
use Rattle.values.specs.Periods.{is_period, period_index, first_month, month_label}

-- the claim day that decides the row
abbrev pub anchor_day : Anchor → ClaimDays → Day
anchor_day Occurrence claim = claim.occurrence
anchor_day Inception claim = claim.inception
anchor_day Report claim = claim.report

-- the month number of the base month
abbrev pub base_month : (year month : ℕ) → ℕ
base_month year month = 12 * year + month - 1

-- a cohort whose settings are in range, the base month and all rows and columns laid end to end staying within the calendar
abbrev pub period_cohort_of : Anchor → (months year month rows columns : ℕ) → Result PeriodCohort CohortFault
period_cohort_of anchor months year month rows columns =
    provided (is_period months) PeriodLength (λ period_ok.
    provided (between 1900 2199 year) BaseYear (λ _.
    provided (between 1 12 month) BaseMonth (λ _.
    provided (between 1 40 rows) Rows (λ rows_ok.
    provided (between 1 40 columns) Columns (λ columns_ok.
    provided (nat_le (base_month year month + months * (rows + columns)) 26399) Span (λ span_ok.
    Ok (record {
      anchor = anchor;
      base = base_month year month;
      months = months;
      rows = rows;
      columns = columns;
      period = period_ok;
      height = rows_ok;
      width = columns_ok;
      span = span_ok;
    })))))))

-- the cell of a row, or beyond where the column is
abbrev pub cell_in_row : (row : ℕ) → Option ℕ → Place
cell_in_row row None = Beyond
cell_in_row row (Some column) = Cell row column

-- the row is that of the anchor day, the column counts periods from the row's first month to the further day
abbrev pub place_at : PeriodCohort → Day → Option ℕ → Place
place_at c day None = Beyond
place_at c day (Some row) =
    cell_in_row row (period_index c.columns c.months (first_month c.base c.months row) (month_number day.number))

abbrev pub period_place : PeriodCohort → ClaimDays → Day → Place
period_place c claim day = place_at c day (period_index c.rows c.months c.base (month_number (anchor_day c.anchor claim).number))

abbrev pub period_meaning : PeriodCohort → Meaning
period_meaning c = record { rows = c.rows; columns = c.columns; place = period_place c }

-- year × 100 + month of the row's first month
abbrev pub period_label : PeriodCohort → ℕ → ℕ
period_label c row = month_label (first_month c.base c.months row)
