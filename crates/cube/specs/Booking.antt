-- What every accepted entry has. Assumes nothing.
use Rattle.std.specs.Prelude.{◌≡◌, ℕ, true, length}
use Rattle.register.specs.Registers.{is_claim}
use Rattle.register.specs.declared.entry.Entry.{Entry}
use Rattle.cube.specs.Model.{State}
use Rattle.cube.specs.Sheets.{sheet_length}

-- the sheet fits, the register takes the entry's claim, and it is not full
pub record Bookable (s : State) (sheet : ℕ) (e : Entry) : Type 0 where
  pub fits : sheet ≡ sheet_length s.cohort
  pub claim : is_claim s.book.bound e.claim ≡ true
  pub room : length s.book.entries ≡ s.book.capacity → ⊥
