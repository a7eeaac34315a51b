-- Where a payment belongs. Assumes nothing.
use Rattle.values.specs.Cohorts.{Meaning}
use Rattle.values.specs.declared.place.Place.{Place}
use Rattle.walkthrough.specs.declared.payment.Payment.{Payment}

abbrev pub payment_place : Meaning → Payment → Place
payment_place m p = m.place p.claim_days p.day
