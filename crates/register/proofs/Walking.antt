-- Walking over the entries of a claim by its pages. Assumes nothing.
use Rattle.std.proofs.Common.{◌≡◌, ℕ, ◌+◌, ◌-◌, ◌*◌, ◌<◌, ◌≤◌, Bool, true, cond, eqb, ◌⊎◌, List, length, get_or, Some, None, sym, refl, ap, ◌∙◌, subst, inl, inr, arith}
use Rattle.std.proofs.lemmas.List.{get_or-map, length-map}
use Rattle.std.proofs.lemmas.Option.{slice_get-get_or, slice_get_past}
use Rattle.std.proofs.lemmas.Bool.{cond-true, cond-false, eq-eqb, ne_eqb, eqb-true, cases_eq, cases_lt, cases_Bool, false≢true}
use Rattle.register.specs.declared.cards.ClaimCard.{ClaimCard}
use Rattle.register.specs.declared.cards.PageCard.{PageCard}
use Rattle.register.specs.declared.numbered.NumberedEntry.{NumberedEntry}
use Rattle.register.specs.Entries.{entry_in, is_entry_of, of_claim}
use Rattle.register.specs.Pages.{Laid, slot_at, card_of, place_of, entries_of, claim_of, last_of, next_slot, slot_after, blank_entry}
use Rattle.register.specs.Registers.{next_in}
use Rattle.register.proofs.Booked.{next_is, next_none}
use Rattle.register.proofs.Last.{last_ge, next_after}
use Rattle.register.proofs.Laying.{claim_known}

module _ (slots : List NumberedEntry) (places : List ℕ) where
  read_entry : (n : ℕ) → 1 ≤ n → n ≤ length places → get_or (entries_of slots places) (n - 1) blank_entry ≡ (slot_at slots (place_of places n)).entry
  read_entry n a b = get_or-map (λ s. (slot_at slots s).entry) places (n - 1) 0 blank_entry (omega arith)

  -- the entry with a number
  pub entry_here : (n : ℕ) → 1 ≤ n → n ≤ length places → entry_in (entries_of slots places) n ≡ Some (slot_at slots (place_of places n)).entry
  entry_here n a b =
      cond-false (eqb n 0) _ _ (ne_eqb n 0 (λ none. omega arith))
      ∙ slice_get-get_or (entries_of slots places) (n - 1) blank_entry (simp length-map (omega arith))
      ∙ ap Some (read_entry n a b)

  pub entry_past : (n : ℕ) → 1 ≤ n → length places ≤ n - 1 → entry_in (entries_of slots places) n ≡ None
  entry_past n a past =
      cond-false (eqb n 0) _ _ (ne_eqb n 0 (λ none. omega arith)) ∙ slice_get_past (entries_of slots places) (n - 1) (simp length-map (omega arith))

  -- what it says of a number that its entry is of a claim
  pub entry_of : (claim n : ℕ) → is_entry_of (entries_of slots places) claim n ≡ true → (1 ≤ n) × (n ≤ length places) × (claim_of slots places n ≡ claim)
  entry_of claim n is =
      elim (cases_eq n 0) [
        | inl none ↦ absurd (false≢true (sym (ap (of_claim claim) (cond-true (eqb n 0) _ _ (eq-eqb n 0 none))) ∙ is))
        | inr some ↦
            elim (cases_lt (n - 1) (length places)) [
              | inl within ↦
                  let a : 1 ≤ n = omega arith in
                  let b : n ≤ length places = omega arith in
                  (a, b, eqb-true _ _ (sym (ap (of_claim claim) (entry_here n a b)) ∙ is))
              | inr past ↦ absurd (false≢true (sym (ap (of_claim claim) (entry_past n (omega arith) past)) ∙ is))
            ]
      ]

  -- at the slot lies an entry of the claim, and the claim's entry before it is not after the number
  pub record Reached (claim after slot : ℕ) : Type 0 where
    pub from : 1 ≤ (slot_at slots slot).number
    pub to : (slot_at slots slot).number ≤ length places
    pub place : place_of places (slot_at slots slot).number ≡ slot
    pub of : claim_of slots places (slot_at slots slot).number ≡ claim
    pub before : last_of (claim_of slots places) claim ((slot_at slots slot).number - 1) ≤ after

  -- such an entry after the number is the one that is asked for
  pub reached_next : (claim after slot : ℕ) → Reached claim after slot → after < (slot_at slots slot).number → next_in (entries_of slots places) claim after ≡ Some (slot_at slots slot)
  reached_next claim after slot r later =
      let n : ℕ = (slot_at slots slot).number in
      let cl : ℕ → ℕ = claim_of slots places in
      let read : get_or (entries_of slots places) (n - 1) blank_entry ≡ (slot_at slots slot).entry = read_entry n r.from r.to ∙ ap (λ s. (slot_at slots s).entry) r.place in
      next_is (entries_of slots places) claim after n blank_entry later (simp length-map r.to)
      (λ j a b is.
      let here = sym (ap (λ x. x.claim) (read_entry (j + 1) (omega arith) (omega (arith, r.to)))) ∙ ap (λ k. (get_or (entries_of slots places) k blank_entry).claim) (omega arith) ∙ is in
      omega (arith, r.before, last_ge cl claim (n - 1) (j + 1) (omega arith) (omega arith) here))
      (ap (λ x. x.claim) read ∙ ap (λ s. (slot_at slots s).entry.claim) (sym r.place) ∙ r.of)
      ∙ ap (λ x. Some (record { number = n; entry = x })) read

  module _ (pages : List PageCard) (cards : List ClaimCard) (laid : Laid pages slots cards places) (claim after : ℕ) where
    -- from the start of the claim, or from an entry of it, the slot after is reached, if an entry after the number is left;
    -- the number of the entry there is higher, so that a walk ends
    pub reached_from : (cur : ℕ) → ((cur ≡ 0) ⊎ (claim_of slots places cur ≡ claim)) → cur ≤ after → after < last_of (claim_of slots places) claim (length places) → Reached claim after (slot_after pages cards places claim cur) × (cur < (slot_at slots (slot_after pages cards places claim cur)).number)
    reached_from cur from early left =
        let cl : ℕ → ℕ = claim_of slots places in
        let found = next_after cl claim (length places) cur from (omega arith) in
        let k : ℕ = found.0 in
        let one : 1 ≤ k = omega (arith, found.1) in
        let at : place_of places k ≡ slot_after pages cards places claim cur =
        laid.linked k one found.2 ∙ ap (λ c. slot_after pages cards places c (last_of cl c (k - 1))) found.3 ∙ ap (slot_after pages cards places claim) found.4 in
        let is : (slot_at slots (slot_after pages cards places claim cur)).number ≡ k = ap (λ s. (slot_at slots s).number) (sym at) ∙ laid.numbered k one found.2 in (
          record {
            from = omega (arith, is);
            to = omega (arith, is, found.2);
            place = ap (place_of places) is ∙ at;
            of = ap cl is ∙ found.3;
            before = omega (arith, ap (λ n. last_of cl claim (n - 1)) is, found.4);
          },
          omega (arith, is, found.1),
        )

    -- where the walk starts
    pub reached_start : after < last_of (claim_of slots places) claim (length places) → Reached claim after (cond (is_entry_of (entries_of slots places) claim after) (next_slot pages (place_of places after)) (16 * (card_of cards claim).first))
    reached_start left =
        let test : Bool = is_entry_of (entries_of slots places) claim after in
        elim (cases_Bool test) [
          | inl is ↦
              let at = entry_of claim after is in
              let behind : slot_after pages cards places claim after ≡ cond test (next_slot pages (place_of places after)) (16 * (card_of cards claim).first) =
              cond-false (eqb after 0) _ _ (ne_eqb after 0 (λ none. omega (arith, at.0))) ∙ sym (cond-true test _ _ is) in
              subst (Reached claim after) behind (reached_from after (inr at.2) (omega arith) left).0
          | inr other ↦ subst (Reached claim after) (sym (cond-false test _ _ other)) (reached_from 0 (inl refl) (omega arith) left).0
        ]

    -- a slot that is reached lies in memory
    pub reached_within : (slot : ℕ) → Reached claim after slot → slot < 16 * length pages
    reached_within slot r = omega (arith, r.place, laid.within (slot_at slots slot).number r.from r.to)

    -- the next slot of the claim
    pub reached_on : (slot : ℕ) → Reached claim after slot → (slot_at slots slot).number ≤ after → after < last_of (claim_of slots places) claim (length places) → Reached claim after (next_slot pages slot) × ((slot_at slots slot).number < (slot_at slots (next_slot pages slot)).number)
    reached_on slot r early left =
        let n : ℕ = (slot_at slots slot).number in
        let is : slot_after pages cards places claim n ≡ next_slot pages slot =
        cond-false (eqb n 0) _ _ (ne_eqb n 0 (λ none. omega (arith, r.from))) ∙ ap (next_slot pages) r.place in
        subst (λ s. Reached claim after s × (n < (slot_at slots s).number)) is (reached_from n (inr r.of) early left)

    -- after the claim's last entry there is none
    pub no_next : last_of (claim_of slots places) claim (length places) ≤ after → next_in (entries_of slots places) claim after ≡ None
    no_next past =
        next_none (entries_of slots places) claim after blank_entry
        (λ j a b is.
        let within : j < length places = simp length-map at b in
        let here = sym (ap (λ x. x.claim) (read_entry (j + 1) (omega arith) (omega arith))) ∙ ap (λ k. (get_or (entries_of slots places) k blank_entry).claim) (omega arith) ∙ is in
        omega (arith, last_ge (claim_of slots places) claim (length places) (j + 1) (omega arith) (omega arith) here))

    -- a claim without a card has no entry
    pub no_claim : (1 ≤ claim → claim ≤ length cards → ⊥) → next_in (entries_of slots places) claim after ≡ None
    no_claim none =
        next_none (entries_of slots places) claim after blank_entry
        (λ j a b is.
        let within : j < length places = simp length-map at b in
        let here = sym (ap (λ x. x.claim) (read_entry (j + 1) (omega arith) (omega arith))) ∙ ap (λ k. (get_or (entries_of slots places) k blank_entry).claim) (omega arith) ∙ is in
        let known = claim_known pages slots cards places laid (j + 1) (omega arith) (omega arith) in
        none (omega (arith, known.0, here)) (omega (arith, known.1, here)))
