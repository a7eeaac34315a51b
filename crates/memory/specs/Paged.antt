-- What memory for a paged register has room for. Assumes nothing.
use Rattle.std.specs.Prelude.{vec_len}
use Rattle.register.specs.Paged.{new_paged}
use Rattle.register.specs.Registers.{Meaning}
use Rattle.memory.specs.declared.paged.PagedMemory.{PagedMemory}

-- the meaning of a new register over it
abbrev pub paged_room : PagedMemory → Meaning
paged_room memory = new_paged (vec_len memory.page_cards) (vec_len memory.slots) (vec_len memory.claim_cards) (vec_len memory.places)
