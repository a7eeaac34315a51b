use Rattle.std.proofs.Common.{◌≡◌, ◌-◌, length}
use Rattle.register.specs.Pages.{slot_at}
use Rattle.register.proofs.Walking.{Reached}
use Rattle.register.proofs.paged.methods.PagedRegisterRegister.next_of_claim.Given as goal

abbrev pub invariant-loop-found : goal.invariant-loop-found
invariant-loop-found l =
    Reached l.self.slots.now l.self.places.items l.claim l.after l.slot
    × (l.found ≡ slot_at l.self.slots.now l.slot)

abbrev pub decreases-loop-found : goal.decreases-loop-found
decreases-loop-found l = length l.self.places.items - l.found.number
