use Rattle.std.proofs.Common.{◌≡◌, ℕ, ◌+◌, ◌-◌, ◌<◌, true, cond, ltb, List, [], ◌∷◌, ◌++◌, length, set, Result, Ok, Err, sym, ap, ◌∙◌, subst, arith, rules}
use Rattle.std.proofs.lemmas.List.{length-map, length_push, length-set}
use Rattle.std.proofs.lemmas.Bool.{cond-true, cond-false, ne_eqb}
use Rattle.std.specs.Result.{is_ok}
use Rattle.register.specs.declared.bounded.CapacityError.{CapacityError}
use Rattle.register.specs.declared.cards.ClaimCard.{ClaimCard}
use Rattle.register.specs.declared.cards.PageCard.{PageCard}
use Rattle.register.specs.declared.entry.Entry.{Entry}
use Rattle.register.specs.declared.paged.PagedRegister.{PagedRegister}
use Rattle.register.specs.Entries.{openings_in}
use Rattle.register.specs.Paged.{paged_meaning}
use Rattle.register.specs.Pages.{Laid, card_after, card_of, entries_of, free_slot, paged_capacity, pages_after, place_of, slot_at}
use Rattle.register.specs.Registers.{Meaning, is_claim, after_add}
use Rattle.register.proofs.Booked.{openings_le, openings_push, push_fits}
use Rattle.register.proofs.Kept.{few_pages, kept, page_there, slot_in}
use Rattle.register.proofs.paged.methods.PagedRegisterRegister.add.Goals as goal

long : (r : PagedRegister) → length (paged_meaning r).entries ≡ length r.places.items
long r = length-map r.places.items (λ s. (slot_at r.slots.now s).entry)

same_capacity : {a b c d a' b' c' d' : ℕ} → a ≡ a' → b ≡ b' → c ≡ c' → d ≡ d' → paged_capacity a b c d ≡ paged_capacity a' b' c' d'
same_capacity p q s t = simp (p, q, s, t)

-- what the check lets through: a claim of the register, and an entry more fits
passed : (r : PagedRegister) (e : Entry) (bound len capacity : ℕ) → bound ≡ length r.claims.now → len ≡ length (paged_meaning r).entries → capacity ≡ (paged_meaning r).capacity → is_claim bound e.claim ≡ true → (len ≡ capacity → ⊥) → (is_claim (length r.claims.now) e.claim ≡ true) × (length r.places.items < (paged_meaning r).capacity)
passed r e bound len capacity a b d is other = (subst (λ x. is_claim x e.claim ≡ true) a is, omega (arith, long r, b, d, r.spacious, other))

-- what adding leaves: the layout, the entries, the capacity that it had, and one place more
leaves : (r : PagedRegister) (e : Entry) {card card' : ClaimCard} {last_slot len used slot page_room place_room : ℕ} {pages : List PageCard} {places : List ℕ} {answer : Result (Unit {0}) CapacityError} → is_claim (length r.claims.now) e.claim ≡ true → length r.places.items < (paged_meaning r).capacity → card ≡ card_of r.claims.now e.claim → last_slot ≡ place_of r.places.items card.last → len ≡ length (paged_meaning r).entries → used ≡ length r.pages.items → slot ≡ free_slot r.pages.items card last_slot → pages ≡ pages_after r.pages.items card last_slot → page_room ≡ r.pages.room → card' ≡ card_after used card (len + 1) → answer ≡ cond (ltb (length r.places.items) r.places.room) (Ok tt) (Err (record {})) → places ≡ cond (is_ok answer) (r.places.items ++ (slot ∷ [])) r.places.items → place_room ≡ r.places.room → Laid pages (set r.slots.now slot (record { number = len + 1; entry = e })) (set r.claims.now (e.claim - 1) card') places × (entries_of (set r.slots.now slot (record { number = len + 1; entry = e })) places ≡ (paged_meaning r).entries ++ (e ∷ [])) × (paged_capacity page_room (length (set r.slots.now slot (record { number = len + 1; entry = e }))) (length (set r.claims.now (e.claim - 1) card')) place_room ≡ (paged_meaning r).capacity) × (length places ≡ length r.places.items + 1)
leaves r e {card = card} {card' = card'} {last_slot = last_slot} {len = len} {used = used} {slot = slot} {pages = pages} {places = places} is room card_is last_is len_is used_is slot_is pages_are page_room_is card'_is answered put place_room_is =
    let number : len + 1 ≡ length r.places.items + 1 = omega (arith, len_is, long r) in
    let pushed = push_fits r.places.room r.places.items places slot _ (omega (arith, room)) answered put in
    let k = kept r e is room card card_is last_slot last_is (len + 1) used slot pages card' places number used_is slot_is pages_are card'_is pushed in
    let same = same_capacity page_room_is (length-set r.slots.now slot (record { number = len + 1; entry = e })) (length-set r.claims.now (e.claim - 1) card') place_room_is in
    (k.0, k.1, same, ap length pushed ∙ length_push r.places.items slot)

pub overflow_cast-used : goal.overflow_cast-used
overflow_cast-used c = omega (arith, c.len-used.ensures, few_pages c.args.self.now)

pub free_slot-slot-requires-clause-free : goal.free_slot-slot-requires-clause-free
free_slot-slot-requires-clause-free c =
    let r = c.args.self.now in
    let ok = passed r c.args.entry _ _ _ c.claim_bound.ensures c.len-len.ensures c.capacity.ensures c.in_ok-check_add.ensures.known c.in_ok-check_add.ensures.free in
    page_there r c.args.entry ok.0 ok.1 c.card-card.result c.card-card.ensures c.place_of-last_slot.result c.place_of-last_slot.ensures.value

pub free_slot-slot-requires-clause-few : goal.free_slot-slot-requires-clause-few
free_slot-slot-requires-clause-few c = omega (arith, few_pages c.args.self.now)

pub bounds-slots-slot : goal.bounds-slots-slot
bounds-slots-slot c =
    let r = c.args.self.now in
    let ok = passed r c.args.entry _ _ _ c.claim_bound.ensures c.len-len.ensures c.capacity.ensures c.in_ok-check_add.ensures.known c.in_ok-check_add.ensures.free in
    omega (arith, slot_in r c.args.entry ok.0 ok.1 c.card-card.result c.card-card.ensures c.place_of-last_slot.result c.place_of-last_slot.ensures.value, c.free_slot-slot.ensures.slot)

pub overflow_cast-slot : goal.overflow_cast-slot
overflow_cast-slot c =
    let r = c.args.self.now in
    let ok = passed r c.args.entry _ _ _ c.claim_bound.ensures c.len-len.ensures c.capacity.ensures c.in_ok-check_add.ensures.known c.in_ok-check_add.ensures.free in
    omega (arith, slot_in r c.args.entry ok.0 ok.1 c.card-card.result c.card-card.ensures c.place_of-last_slot.result c.place_of-last_slot.ensures.value, c.free_slot-slot.ensures.slot)

pub overflow_add-opened : goal.overflow_add-opened
overflow_add-opened c =
    let r = c.args.self.now in
    search (rules, openings_le (paged_meaning r).entries, long r, r.spacious, r.openings)

pub invariant_of-self : goal.invariant_of-self
invariant_of-self c =
    let r = c.args.self.now in
    let ok = passed r c.args.entry _ _ _ c.claim_bound.ensures c.len-len.ensures c.capacity.ensures c.in_ok-check_add.ensures.known c.in_ok-check_add.ensures.free in
    let left = leaves r c.args.entry ok.0 ok.1 c.card-card.ensures c.place_of-last_slot.ensures.value c.len-len.ensures c.len-used.ensures c.free_slot-slot.ensures.slot c.free_slot-slot.ensures.pages c.free_slot-slot.ensures.room c.moved_on.ensures c.push.ensures.answer c.push.ensures.items c.push.ensures.room in
    let claims = length-set r.claims.now (c.args.entry.claim - 1) c.moved_on.result in
    let more = ap openings_in left.1 ∙ openings_push (paged_meaning r).entries c.args.entry in record {
      laid = left.0;
      few = omega (arith, claims, r.few);
      spacious = omega (arith, left.3, left.2, ok.1);
      openings = omega (arith, more, r.openings, c.openings_of.ensures);
    }

same_meaning : {es es' : List Entry} {a b a' b' : ℕ} → es ≡ es' → a ≡ a' → b ≡ b' → ◌≡◌ {A = Meaning} (record { entries = es; capacity = a; bound = b }) (record { entries = es'; capacity = a'; bound = b' })
same_meaning p q s = simp (p, q, s)

-- an entry that is not refused is added
accepted : (m : Meaning) (e : Entry) → is_claim m.bound e.claim ≡ true → (length m.entries ≡ m.capacity → ⊥) → after_add m e ≡ record { entries = m.entries ++ (e ∷ []); capacity = m.capacity; bound = m.bound }
accepted m e is other = cond-true _ _ _ is ∙ cond-false _ _ _ (ne_eqb (length m.entries) m.capacity other)

pub returns-clause-after : goal.returns-clause-after
returns-clause-after c =
    let r = c.args.self.now in
    let ok = passed r c.args.entry _ _ _ c.claim_bound.ensures c.len-len.ensures c.capacity.ensures c.in_ok-check_add.ensures.known c.in_ok-check_add.ensures.free in
    let left = leaves r c.args.entry ok.0 ok.1 c.card-card.ensures c.place_of-last_slot.ensures.value c.len-len.ensures c.len-used.ensures c.free_slot-slot.ensures.slot c.free_slot-slot.ensures.pages c.free_slot-slot.ensures.room c.moved_on.ensures c.push.ensures.answer c.push.ensures.items c.push.ensures.room in
    let claims = length-set r.claims.now (c.args.entry.claim - 1) c.moved_on.result in
    same_meaning left.1 left.2 claims ∙ sym (accepted (paged_meaning r) c.args.entry ok.0 (λ full. c.in_ok-check_add.ensures.free (c.len-len.ensures ∙ full ∙ sym c.capacity.ensures)))
