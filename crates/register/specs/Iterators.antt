-- What iterators over the entries of a register have left, by the meaning of the register. Assumes nothing.
use Rattle.std.specs.Prelude.{List}
use Rattle.register.specs.declared.entries.ClaimEntries.{ClaimEntries}
use Rattle.register.specs.declared.entries.Entries.{Entries}
use Rattle.register.specs.declared.numbered.NumberedEntry.{NumberedEntry}
use Rattle.register.specs.Registers.{Meaning, claim_entries_after, entries_after}

module _ {R : Type 0} (meaning : R → Meaning) where
  abbrev pub entries_left : Entries R → List NumberedEntry
  entries_left it = entries_after (meaning it.register.now).entries it.after

  abbrev pub claim_entries_left : ClaimEntries R → List NumberedEntry
  claim_entries_left it = claim_entries_after (meaning it.register.now).entries it.claim it.after
