-- What values and faults are written as: bytes of text. Assumes nothing.
use Rattle.std.specs.Prelude.{ℕ, ◌-◌, ◌^◌, List, ◌++◌, codes}
use Rattle.std.specs.Fmt.{decimal, format_spec, styled_decimal}
use Rattle.values.specs.Calendar.{year_of, month_of, day_of_month}
use Rattle.values.specs.declared.day.Day.{Day}
use Rattle.values.specs.declared.fault.CohortFault.{CohortFault}
use Rattle.values.specs.declared.fault.CohortFault.TheVariants.{PeriodLength, BaseYear, BaseMonth, Rows, Columns, Span}
use Rattle.values.specs.declared.fault.ValueFault.{ValueFault}
use Rattle.values.specs.declared.fault.ValueFault.TheVariants.{NotADay, NotAnAmount}

-- a number with a 0 before it where it has one digit: what `{:02}` writes
abbrev pub two_digits : ℕ → List ℕ
two_digits n = styled_decimal (format_spec 32 0 4 2 (2 ^ 64 - 1)) n

-- year, month and day of the month, parted by `-`: 2021-04-15
abbrev pub day_text : Day → List ℕ
day_text day = decimal (year_of day.number) ++ codes "-" ++ two_digits (month_of day.number) ++ codes "-" ++ two_digits (day_of_month day.number)

abbrev pub value_fault_text : ValueFault → List ℕ
value_fault_text NotADay = codes "no day of the calendar from 1900 to 2199"
value_fault_text NotAnAmount = codes "no amount: it is not 0, and at most 1,000,000,000.00 either way"

abbrev pub cohort_fault_text : CohortFault → List ℕ
cohort_fault_text PeriodLength = codes "a period has 1, 3, 6 or 12 months"
cohort_fault_text BaseYear = codes "the base year is from 1900 to 2199"
cohort_fault_text BaseMonth = codes "the base month is from 1 to 12"
cohort_fault_text Rows = codes "there are 1 to 40 rows"
cohort_fault_text Columns = codes "there are 1 to 40 columns"
cohort_fault_text Span = codes "the rows and columns pass December 2199"
