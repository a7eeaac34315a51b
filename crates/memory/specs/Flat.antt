-- What memory for a flat log has room for. Assumes nothing.
use Rattle.std.specs.Prelude.{vec_len}
use Rattle.register.specs.Flat.{new_flat}
use Rattle.register.specs.Registers.{Meaning}
use Rattle.memory.specs.declared.flat.FlatMemory.{FlatMemory}

-- the meaning of a new log over it
abbrev pub flat_room : FlatMemory → Meaning
flat_room memory = new_flat (vec_len memory.slots) memory.claims
