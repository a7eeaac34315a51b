-- The first entries of a register. Assumes nothing.
use Rattle.std.specs.Prelude.{ℕ, take}
use Rattle.register.specs.Registers.{Meaning}

-- the register as it was after so many entries
abbrev pub first_entries : (count : ℕ) → Meaning → Meaning
first_entries count book = record { entries = take count book.entries; capacity = book.capacity; bound = book.bound }
