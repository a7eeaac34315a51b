-- What becomes of numbers that are read as values: the value, or the fault of the first that is none. Assumes nothing.
use Rattle.std.specs.Prelude.{◌≡◌, ℕ, Bool, true, false, ◌&&◌, ℤ, Ok, Err, Result, nat_le, refl}
use Rattle.values.specs.declared.amount.Amount.{Amount}
use Rattle.values.specs.declared.claim_days.ClaimDays.{ClaimDays}
use Rattle.values.specs.declared.day.Day.{Day}
use Rattle.values.specs.declared.fault.ValueFault.{ValueFault}
use Rattle.values.specs.declared.fault.ValueFault.TheVariants.{NotADay, NotAnAmount}
use Rattle.values.specs.Amounts.{is_amount}
use Rattle.values.specs.Calendar.{is_day}

-- where the test passes, what follows, which may use that it passed; else the fault
unfoldable pub provided : {V E : Type 0} (test : Bool) → E → (test ≡ true → Result V E) → Result V E
provided true fault next = next refl
provided false fault next = Err fault

-- the first result's value handed on, or its fault
abbrev pub and_then : {U V E : Type 0} → Result U E → (U → Result V E) → Result V E
and_then (Ok value) next = next value
and_then (Err fault) next = Err fault

-- a number that is a day's gives that day
abbrev pub day_of : ℕ → Result Day ValueFault
day_of n = provided (is_day n) NotADay (λ lawful. Ok (record { number = n; lawful = lawful }))

-- a number of cents that is an amount gives that amount
abbrev pub amount_of : ℤ → Result Amount ValueFault
amount_of cents = provided (is_amount cents) NotAnAmount (λ lawful. Ok (record { cents = cents; lawful = lawful }))

-- three numbers of days give claim days
abbrev pub claim_days_of : (inception occurrence report : ℕ) → Result ClaimDays ValueFault
claim_days_of inception occurrence report =
    and_then (day_of inception) (λ i. and_then (day_of occurrence) (λ o. and_then (day_of report) (λ r. Ok (record { inception = i; occurrence = o; report = r }))))

-- inception ≤ occurrence ≤ report
abbrev pub in_order : ClaimDays → Bool
in_order days = nat_le days.inception.number days.occurrence.number && nat_le days.occurrence.number days.report.number
