-- An entry that is of no book. Assumes nothing.
use Rattle.std.specs.Prelude.{ℕ, Ok, Result}
use Rattle.register.specs.declared.entry.Content.TheVariants.{Void}
use Rattle.register.specs.declared.entry.Entry.{Entry}
use Rattle.values.specs.declared.fault.ValueFault.{ValueFault}
use Rattle.values.specs.Making.{and_then, day_of}

-- the void of the entry 77, booked for the claim 77 on a day
abbrev pub leftover_of : ℕ → Result Entry ValueFault
leftover_of day = and_then (day_of day) (λ d. Ok (record { booked = d; claim = 77; content = Void (record { names = 77 }) }))
