-- The refusal number of each fault. Assumes nothing.
use Rattle.std.specs.Prelude.{ℕ}
use Rattle.values.specs.declared.fault.CohortFault.{CohortFault}
use Rattle.values.specs.declared.fault.CohortFault.TheVariants.{PeriodLength, BaseYear, BaseMonth, Rows, Columns, Span}
use Rattle.values.specs.declared.fault.ValueFault.{ValueFault}
use Rattle.values.specs.declared.fault.ValueFault.TheVariants.{NotADay, NotAnAmount}

abbrev pub value_fault_number : ValueFault → ℕ
value_fault_number NotADay = 1
value_fault_number NotAnAmount = 2

abbrev pub cohort_fault_number : CohortFault → ℕ
cohort_fault_number PeriodLength = 3
cohort_fault_number BaseYear = 3
cohort_fault_number BaseMonth = 3
cohort_fault_number Rows = 3
cohort_fault_number Columns = 3
cohort_fault_number Span = 3
