use Rattle.std.proofs.Common.{◌≡◌, ℕ, ◌+◌, ◌*◌, ◌^◌, ◌<◌, ◌≤◌, true, false, cond, length, Some, sym, ap, ◌∙◌, subst, arith, rules}
use Rattle.std.proofs.lemmas.Bool.{le-leb, and_from, both_ways}
use Rattle.register.specs.declared.cards.ClaimCard.{ClaimCard}
use Rattle.register.specs.declared.numbered.NumberedEntry.{NumberedEntry}
use Rattle.register.specs.declared.paged.PagedRegister.{PagedRegister}
use Rattle.register.specs.Entries.{is_entry_of}
use Rattle.register.specs.Paged.{paged_meaning}
use Rattle.register.specs.Pages.{card_of, claim_of, last_of, next_slot, place_of, slot_at}
use Rattle.register.specs.Registers.{is_claim}
use Rattle.register.proofs.Growing.{few_slots}
use Rattle.register.proofs.Laying.{is_claim_lem}
use Rattle.register.proofs.Walking.{Reached, no_claim, no_next, reached_start, reached_within, reached_on, reached_next}
use Rattle.register.proofs.paged.methods.PagedRegisterRegister.next_of_claim.Goals as goal

module _ (r : PagedRegister) (claim after : ℕ) where
  abbrev At : ℕ → Type 0
  At slot = Reached r.slots.now r.places.items claim after slot

  -- slots that are reached lie in memory, and are few enough to count on from
  small : (slot : ℕ) → At slot → (slot < length r.slots.now) × (slot + 1 < 2 ^ 64)
  small slot at =
      let within = reached_within r.slots.now r.places.items r.pages.items r.claims.now r.laid claim after slot at in
      let few = few_slots r.pages.items r.slots.now r.claims.now r.places.items r.laid in
      (omega (arith, within, r.laid.fit), omega (arith, within, few, r.few, r.spacious))

  module _ (is : is_claim (length r.claims.now) claim ≡ true) (card : ClaimCard) (card_is : card ≡ card_of r.claims.now claim) where
    -- the number on a claim's card is that of its last entry
    last_number : card.last ≡ last_of (claim_of r.slots.now r.places.items) claim (length r.places.items)
    last_number = let at = is_claim_lem (length r.claims.now) claim is in ap (λ x. x.last) card_is ∙ r.laid.lasts claim at.0 at.1

    module _ (more : after < card.last) where
      first_reached : (slot : ℕ) → slot ≡ cond (is_entry_of (paged_meaning r).entries claim after) (next_slot r.pages.items (place_of r.places.items after)) (16 * card.first) → At slot
      first_reached slot from =
          subst At (sym (from ∙ ap (λ x. cond (is_entry_of (paged_meaning r).entries claim after) (next_slot r.pages.items (place_of r.places.items after)) (16 * x.first)) card_is))
          (reached_start r.slots.now r.places.items r.pages.items r.claims.now r.laid claim after (omega (arith, last_number)))

      next_reached : (slot next : ℕ) (found : NumberedEntry) → At slot → found ≡ slot_at r.slots.now slot → found.number ≤ after → next ≡ next_slot r.pages.items slot → At next × (found.number < (slot_at r.slots.now next).number)
      next_reached slot next found at found_is early next_is =
          let number = ap (λ x. x.number) found_is in
          let on = reached_on r.slots.now r.places.items r.pages.items r.claims.now r.laid claim after slot at (omega (arith, number)) (omega (arith, last_number)) in
          subst (λ s. At s × (found.number < (slot_at r.slots.now s).number)) (sym next_is) (on.0, omega (arith, number, on.1))

pub returns-then-not-is_claim : goal.returns-then-not-is_claim
returns-then-not-is_claim c =
    let r = c.args.self.now in
    let other : is_claim (length r.claims.now) c.args.claim ≡ false = search rules in
    sym
    (no_claim r.slots.now r.places.items r.pages.items r.claims.now r.laid c.args.claim c.args.after
    (λ a b. both_ways _ other (and_from _ _ (le-leb 1 c.args.claim a) (le-leb c.args.claim (length r.claims.now) b))))

pub returns-then-card-after : goal.returns-then-card-after
returns-then-card-after c =
    let r = c.args.self.now in
    let is : is_claim (length r.claims.now) c.args.claim ≡ true = search rules in
    sym
    (no_next r.slots.now r.places.items r.pages.items r.claims.now r.laid c.args.claim c.args.after
    (omega (arith, last_number r c.args.claim c.args.after is c.card-card.result c.card-card.ensures, c.if-card-after.true)))

pub slot-found-requires : goal.slot-found-requires
slot-found-requires c =
    let r = c.args.self.now in
    let is : is_claim (length r.claims.now) c.args.claim ≡ true = search rules in
    (small r c.args.claim c.args.after c.start_slot-slot.result
    (first_reached r c.args.claim c.args.after is c.card-card.result c.card-card.ensures c.if-card-after.false c.start_slot-slot.result c.start_slot-slot.ensures)).0

pub loop-found-init : goal.loop-found-init
loop-found-init c =
    let r = c.args.self.now in
    let is : is_claim (length r.claims.now) c.args.claim ≡ true = search rules in
    (first_reached r c.args.claim c.args.after is c.card-card.result c.card-card.ensures c.if-card-after.false c.start_slot-slot.result c.start_slot-slot.ensures, c.slot-found.ensures)

pub next_slot-slot-requires : goal.next_slot-slot-requires
next_slot-slot-requires c = (small c.args.self.now c.args.claim c.args.after c.loop-found.slot c.loop-found.invariant.0).1

-- one turn of the walk, at each of the places that ask for it
turn : (r : PagedRegister) (claim after slot next : ℕ) (card : ClaimCard) (found : NumberedEntry) → is_claim (length r.claims.now) claim ≡ true → card ≡ card_of r.claims.now claim → after < card.last → At r claim after slot × (found ≡ slot_at r.slots.now slot) → found.number ≤ after → next ≡ next_slot r.pages.items slot → At r claim after next × (found.number < (slot_at r.slots.now next).number)
turn r claim after slot next card found is card_is more inv early next_is = next_reached r claim after is card card_is more slot next found inv.0 inv.1 early next_is

pub slot-found-requires-in-loop-found : goal.slot-found-requires-in-loop-found
slot-found-requires-in-loop-found c =
    let r = c.args.self.now in
    let is : is_claim (length r.claims.now) c.args.claim ≡ true = search rules in
    (small r c.args.claim c.args.after c.next_slot-slot.result
    (turn r c.args.claim c.args.after c.loop-found.slot c.next_slot-slot.result c.card-card.result c.loop-found.found is c.card-card.ensures c.if-card-after.false c.loop-found.invariant c.loop-found-test.true c.next_slot-slot.ensures).0).0

pub loop-found-smaller : goal.loop-found-smaller
loop-found-smaller c =
    let r = c.args.self.now in
    let is : is_claim (length r.claims.now) c.args.claim ≡ true = search rules in
    let on = turn r c.args.claim c.args.after c.loop-found.slot c.next_slot-slot.result c.card-card.result c.loop-found.found is c.card-card.ensures c.if-card-after.false c.loop-found.invariant c.loop-found-test.true c.next_slot-slot.ensures in
    omega (arith, on.1, on.0.to, ap (λ x. x.number) c.slot-found-in-loop-found.ensures)

pub loop-found-preserved : goal.loop-found-preserved
loop-found-preserved c =
    let r = c.args.self.now in
    let is : is_claim (length r.claims.now) c.args.claim ≡ true = search rules in
    ((turn r c.args.claim c.args.after c.loop-found.slot c.next_slot-slot.result c.card-card.result c.loop-found.found is c.card-card.ensures c.if-card-after.false c.loop-found.invariant c.loop-found-test.true c.next_slot-slot.ensures).0, c.slot-found-in-loop-found.ensures)

pub returns : goal.returns
returns c =
    let r = c.args.self.now in
    ap Some c.loop-found.invariant.1
    ∙ sym (reached_next r.slots.now r.places.items c.args.claim c.args.after c.loop-found.slot c.loop-found.invariant.0 (omega (arith, ap (λ x. x.number) c.loop-found.invariant.1)))
