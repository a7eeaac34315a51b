-- What adding an entry leaves of a paged register, in the terms in which the code holds its parts. Assumes nothing.
use Rattle.std.proofs.Common.{◌≡◌, ℕ, ◌+◌, ◌-◌, ◌*◌, ◌^◌, ◌<◌, ◌≤◌, true, List, [], ◌∷◌, ◌++◌, length, set, sym, ap, ◌∙◌, subst, arith}
use Rattle.std.proofs.lemmas.List.{get_or_push, length_push, length-set}
use Rattle.register.specs.declared.cards.ClaimCard.{ClaimCard}
use Rattle.register.specs.declared.cards.PageCard.{PageCard}
use Rattle.register.specs.declared.entry.Entry.{Entry}
use Rattle.register.specs.declared.numbered.NumberedEntry.{NumberedEntry}
use Rattle.register.specs.declared.paged.PagedRegister.{PagedRegister}
use Rattle.register.specs.Pages.{Laid, card_of, place_of, entries_of, paged_capacity, free_slot, pages_after, card_after}
use Rattle.register.specs.Registers.{is_claim}
use Rattle.register.proofs.Laying.{is_claim_lem}
use Rattle.register.proofs.Growing.{added, few_slots, page_free}

module _ (r : PagedRegister) (e : Entry) where
  abbrev pages : List PageCard
  pages = r.pages.items

  abbrev places : List ℕ
  places = r.places.items

  abbrev written : NumberedEntry
  written = record { number = length places + 1; entry = e }

  -- the layout, and the entries with the new one at the end
  abbrev Holds : List PageCard → ClaimCard → (slot : ℕ) → Type 0
  Holds pages' card' slot =
      Laid pages' (set r.slots.now slot written) (set r.claims.now (e.claim - 1) card') (places ++ (slot ∷ []))
      × (entries_of (set r.slots.now slot written) (places ++ (slot ∷ [])) ≡ entries_of r.slots.now places ++ (e ∷ []))

  module _
      (is : is_claim (length r.claims.now) e.claim ≡ true)
      (free : length places < paged_capacity r.pages.room (length r.slots.now) (length r.claims.now) r.places.room)
      (card : ClaimCard) (card_is : card ≡ card_of r.claims.now e.claim)
      (last_slot : ℕ) (last_is : last_slot ≡ place_of places card.last)
    where
      holds : Holds (pages_after pages card last_slot) (card_after (length pages) card (length places + 1)) (free_slot pages card last_slot)
      holds =
          let at = is_claim_lem (length r.claims.now) e.claim is in
          subst (λ s. Holds (pages_after pages card s) (card_after (length pages) card (length places + 1)) (free_slot pages card s)) (sym last_is)
          (subst (λ k. Holds (pages_after pages k (place_of places k.last)) (card_after (length pages) k (length places + 1)) (free_slot pages k (place_of places k.last))) (sym card_is)
          (added pages r.slots.now r.claims.now places r.laid e at.0 at.1 r.pages.room r.places.room free))

      -- the slot lies in memory, and its number is small
      pub slot_in : (free_slot pages card last_slot < length r.slots.now) × (free_slot pages card last_slot < 2 ^ 32)
      slot_in =
          let l = holds.0 in
          let s : ℕ = free_slot pages card last_slot in
          let one_more = length_push places s in
          let at = l.within (length places + 1) (omega arith) (omega (arith, one_more)) in
          let here = get_or_push places s 0 (length places + 1 - 1) (omega arith) in
          let few = few_slots (pages_after pages card last_slot) (set r.slots.now s written) (set r.claims.now (e.claim - 1) (card_after (length pages) card (length places + 1))) (places ++ (s ∷ [])) l in (
            omega (arith, at, here, l.fit, length-set r.slots.now s written),
            omega (arith, at, here, few, one_more, r.few, r.spacious, length-set r.claims.now (e.claim - 1) (card_after (length pages) card (length places + 1))),
          )

      -- a page is free where one is needed, and pages and slots are few
      pub page_there : card.spare ≡ 0 → length pages < r.pages.room
      page_there none =
          let at = is_claim_lem (length r.claims.now) e.claim is in
          omega (arith, page_free pages r.slots.now r.claims.now places r.laid e.claim r.pages.room r.places.room at.0 at.1 (ap (λ k. k.spare) (sym card_is) ∙ none) free)

      -- the parts as the code leaves them
      pub kept : (number used slot : ℕ) (pages' : List PageCard) (card' : ClaimCard) (places' : List ℕ) → number ≡ length places + 1 → used ≡ length pages → slot ≡ free_slot pages card last_slot → pages' ≡ pages_after pages card last_slot → card' ≡ card_after used card number → places' ≡ places ++ (slot ∷ []) → Laid pages' (set r.slots.now slot (record { number = number; entry = e })) (set r.claims.now (e.claim - 1) card') places' × (entries_of (set r.slots.now slot (record { number = number; entry = e })) places' ≡ entries_of r.slots.now places ++ (e ∷ []))
      kept number used slot pages' card' places' number_is used_is slot_is pages_is card'_is places_is =
          let after : card' ≡ card_after (length pages) card (length places + 1) = card'_is ∙ ap (λ u. card_after u card number) used_is ∙ ap (card_after (length pages) card) number_is in
          let state : NumberedEntry → List ℕ → Type 0 =
          λ w p. Laid pages' (set r.slots.now slot w) (set r.claims.now (e.claim - 1) card') p × (entries_of (set r.slots.now slot w) p ≡ entries_of r.slots.now places ++ (e ∷ [])) in
          subst (λ n. state (record { number = n; entry = e }) places') (sym number_is)
          (subst (λ p. state written p) (sym places_is)
          (subst (λ s. Holds pages' card' s) (sym slot_is)
          (subst (λ k. Holds k card' (free_slot pages card last_slot)) (sym pages_is)
          (subst (λ k. Holds (pages_after pages card last_slot) k (free_slot pages card last_slot)) (sym after) holds))))

-- pages in use are few
pub few_pages : (r : PagedRegister) → 16 * length r.pages.items ≤ 65536 + 15 * 8192
few_pages r = omega (arith, few_slots r.pages.items r.slots.now r.claims.now r.places.items r.laid, r.few, r.spacious)
