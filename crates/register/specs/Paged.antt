-- What a paged register means. Assumes nothing.
use Rattle.std.specs.Prelude.{ℕ, min, [], length}
use Rattle.std.proofs.Common.{arith}
use Rattle.std.proofs.lemmas.List.{length-map}
use Rattle.register.specs.declared.paged.PagedRegister.{PagedRegister}
use Rattle.register.specs.Pages.{entries_of, paged_capacity, slot_at}
use Rattle.register.specs.Registers.{Meaning, Sound}

-- the entries are those at the places, in the order of their numbers
abbrev pub paged_meaning : PagedRegister → Meaning
paged_meaning r = record {
  entries = entries_of r.slots.now r.places.items;
  capacity = paged_capacity r.pages.room (length r.slots.now) (length r.claims.now) r.places.room;
  bound = length r.claims.now;
}

-- a new register: no entries, one claim for each claim card up to 8,192, and what surely fits into the pages
abbrev pub new_paged : (page_cards slots claim_cards places : ℕ) → Meaning
new_paged page_cards slots claim_cards places = record {
  entries = [];
  capacity = paged_capacity page_cards slots (min claim_cards 8192) places;
  bound = min claim_cards 8192;
}

pub paged_sound : (r : PagedRegister) → Sound (paged_meaning r)
paged_sound r = record {
  few_entries = omega arith;
  few_claims = r.few;
  room = omega (arith, length-map r.places.items (λ s. (slot_at r.slots.now s).entry), r.spacious);
  claims = r.laid.known;
}
