-- A lawful value is the one that its own number makes. Assumes nothing.
use Rattle.std.proofs.Common.{◌≡◌, Bool, true, false, Ok, Err, Result, refl, ap, ◌∙◌, true≢false}
use mathlib.Core.Bool.{Bool-set, false≢true}
use Rattle.values.specs.declared.amount.Amount.{Amount}
use Rattle.values.specs.declared.day.Day.{Day}
use Rattle.values.specs.declared.fault.ValueFault.TheVariants.{NotADay, NotAnAmount}
use Rattle.values.specs.Amounts.{is_amount}
use Rattle.values.specs.Calendar.{is_day}
use Rattle.values.specs.Making.{provided, day_of, amount_of}

-- where the test passed, what follows decides, whichever proof that it passed is used, since there is one at most
pub passes : {V E : Type 0} (test : Bool) (fault : E) (next : test ≡ true → Result V E) (passed : test ≡ true) (r : Result V E) → r ≡ next passed → r ≡ provided test fault next
unfolding provided
passes true fault next passed r is = is ∙ ap next (Bool-set true true passed refl)
passes false fault next passed r is = absurd (false≢true passed)

-- where it failed, the fault
pub fails : {V E : Type 0} (test : Bool) (fault : E) (next : test ≡ true → Result V E) → test ≡ false → Err fault ≡ provided test fault next
unfolding provided
fails true fault next failed = absurd (true≢false failed)
fails false fault next failed = refl

pub day_made : (d : Day) → Ok d ≡ day_of d.number
day_made d = passes (is_day d.number) NotADay (λ lawful. Ok (record { number = d.number; lawful = lawful })) d.lawful (Ok d) refl

pub amount_made : (a : Amount) → Ok a ≡ amount_of a.cents
amount_made a = passes (is_amount a.cents) NotAnAmount (λ lawful. Ok (record { cents = a.cents; lawful = lawful })) a.lawful (Ok a) refl
