-- What becomes of the numbers of a payment. Assumes nothing.
use Rattle.std.specs.Prelude.{Ok, Result}
use Rattle.values.specs.declared.fault.ValueFault.{ValueFault}
use Rattle.values.specs.Making.{and_then, day_of, amount_of, claim_days_of}
use Rattle.walkthrough.specs.declared.payment.Numbers.{Numbers}
use Rattle.walkthrough.specs.declared.payment.Payment.{Payment}

-- the payment, or the fault of the first number that is no day or no amount
abbrev pub payment_of : Numbers → Result Payment ValueFault
payment_of n =
    and_then (claim_days_of n.inception n.occurrence n.report) (λ claim.
    and_then (day_of n.payment) (λ day.
    and_then (amount_of n.cents) (λ amount. Ok (record { claim_days = claim; day = day; amount = amount }))))
