-- An empty register. Assumes nothing.
use Rattle.std.specs.Prelude.{ℕ, min, []}
use Rattle.register.specs.Registers.{Meaning}

-- no entries yet, with room for so many over so many claims, up to 65,536 and 8,192
abbrev pub empty : (entries claims : ℕ) → Meaning
empty entries claims = record { entries = []; capacity = min entries 65536; bound = min claims 8192 }
