-- The terms of a movement, by their numbers or by the correction that gives them. Assumes nothing.
use Rattle.std.specs.Prelude.{ℕ, ℤ, Ok, Result}
use Rattle.values.specs.Making.{and_then, amount_of, day_of}
use Rattle.values.specs.declared.fault.ValueFault.{ValueFault}
use Rattle.register.specs.declared.entry.Correction.{Correction}
use Rattle.register.specs.declared.entry.Terms.{Terms}

-- the terms with these numbers, or the fault of the first that is no day or no amount
abbrev pub new_terms : (effective : ℕ) → (cents : ℤ) → Result Terms ValueFault
new_terms effective cents =
    and_then (day_of effective) (λ e. and_then (amount_of cents) (λ a. Ok (record { effective = e; amount = a })))

-- the terms that a correction gives the movement that it names
abbrev pub terms_of_correction : Correction → Terms
terms_of_correction k = record { effective = k.effective; amount = k.amount }

-- the correction that gives the movement with this number these terms
abbrev pub correction_to : (names : ℕ) → Terms → Correction
correction_to names terms = record { names = names; effective = terms.effective; amount = terms.amount }
