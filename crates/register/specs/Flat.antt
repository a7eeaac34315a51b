-- What a flat log means. Assumes nothing.
use Rattle.std.specs.Prelude.{ℕ, min, []}
use Rattle.std.proofs.Common.{arith}
use Rattle.register.specs.declared.flat.FlatLog.{FlatLog}
use Rattle.register.specs.Registers.{Meaning, Sound}

-- the capacity is the number of slots, at most 65,536
abbrev pub flat_meaning : FlatLog → Meaning
flat_meaning log = record { entries = log.entries.items; capacity = min log.entries.room 65536; bound = log.bound }

-- a new log: no entries, the caps of both limits
abbrev pub new_flat : (slots bound : ℕ) → Meaning
new_flat slots bound = record { entries = []; capacity = min slots 65536; bound = min bound 8192 }

pub flat_sound : (log : FlatLog) → Sound (flat_meaning log)
flat_sound log = record {
  few_entries = omega arith;
  few_claims = log.few;
  room = log.within;
  claims = log.known;
}
