-- The layout of the paged register: what follows from it, and that one more entry keeps it. Assumes nothing.
use Rattle.std.proofs.Common.{◌≡◌, ℕ, suc, ◌+◌, ◌-◌, ◌*◌, ◌%◌, ◌<◌, ◌≤◌, true, cond, eqb, ◌⊎◌, List, [], ◌∷◌, ◌++◌, map, length, get_or, set, sym, refl, ap, ◌∙◌, inl, inr, arith}
use Rattle.std.proofs.lemmas.List.{get_or-map, length-map, get_or_append_left, get_or_push, get_or-set_same, get_or-set_other, length_push, length-set, map_push}
use Rattle.std.proofs.lemmas.List.Sums.{AllPass-from_list_all, sum_by-set}
use Rattle.std.proofs.lemmas.Bool.{and_parts, and_from, leb-true, le-leb, cond-true, cond-false, eq-eqb, ne_eqb, cases_eq}
use Rattle.register.specs.declared.cards.ClaimCard.{ClaimCard}
use Rattle.register.specs.declared.cards.PageCard.{PageCard}
use Rattle.register.specs.declared.entry.Entry.{Entry}
use Rattle.register.specs.declared.numbered.NumberedEntry.{NumberedEntry}
use Rattle.register.specs.Pages.{Laid, slot_at, card_of, place_of, entries_of, claim_of, last_of, next_slot, slot_after, spare_slots, spare_after, blank_entry}
use Rattle.register.specs.Registers.{is_claim, claims_known}
use Rattle.register.proofs.Booked.{claims_push}
use Rattle.register.proofs.Last.{last_le, last_is, last_ge, last_same, last_more}

pub is_claim_lem : (bound c : ℕ) → is_claim bound c ≡ true → (1 ≤ c) × (c ≤ bound)
is_claim_lem bound c is = let both = and_parts _ _ is in (leb-true 1 c both.0, leb-true c bound both.1)

module _ (pages : List PageCard) (slots : List NumberedEntry) (cards : List ClaimCard) (places : List ℕ) (laid : Laid pages slots cards places) where
  -- an entry's claim has a card
  pub claim_known : (n : ℕ) → 1 ≤ n → n ≤ length places → (1 ≤ claim_of slots places n) × (claim_of slots places n ≤ length cards)
  claim_known n one within =
      let at = AllPass-from_list_all (λ x. is_claim (length cards) x.claim) (entries_of slots places) laid.known (n - 1) blank_entry (simp length-map (omega arith)) in
      let read : get_or (entries_of slots places) (n - 1) blank_entry ≡ (slot_at slots (place_of places n)).entry = get_or-map (λ s. (slot_at slots s).entry) places (n - 1) 0 blank_entry (omega arith) in
      is_claim_lem (length cards) (claim_of slots places n) (sym (ap (λ x. is_claim (length cards) x.claim) read) ∙ at)

  -- no two entries have one slot
  pub same_place : (n m : ℕ) → 1 ≤ n → n ≤ length places → 1 ≤ m → m ≤ length places → place_of places n ≡ place_of places m → n ≡ m
  same_place n m a b c d same = sym (laid.numbered n a b) ∙ ap (λ s. (slot_at slots s).number) same ∙ laid.numbered m c d

  -- the last entry of a claim is before no other
  pub not_followed : (n c : ℕ) → 1 ≤ n → n ≤ length places → 0 < last_of (claim_of slots places) (claim_of slots places n) (n - 1) → 0 < last_of (claim_of slots places) c (length places) → place_of places (last_of (claim_of slots places) (claim_of slots places n) (n - 1)) ≡ place_of places (last_of (claim_of slots places) c (length places)) → ⊥
  not_followed n c one within some_m some_last same =
      let cl : ℕ → ℕ = claim_of slots places in
      let m : ℕ = last_of cl (cl n) (n - 1) in
      let last : ℕ = last_of cl c (length places) in
      let m_le : m ≤ n - 1 = last_le cl (cl n) (n - 1) in
      let last_in : last ≤ length places = last_le cl c (length places) in
      let is : m ≡ last = same_place m last (omega arith) (omega arith) (omega arith) last_in same in
      let of : cl n ≡ c = sym (last_is cl (cl n) (n - 1) some_m) ∙ ap cl is ∙ last_is cl c (length places) some_last in
      omega (arith, last_ge cl c (length places) n one within of)

map_same : {B : Type 0} (f g : ℕ → B) (xs : List ℕ) → ((i : ℕ) → i < length xs → f (get_or xs i 0) ≡ g (get_or xs i 0)) → map f xs ≡ map g xs
map_same f g [] same = refl
map_same f g (x ∷ xs) same =
    let head = same 0 (omega arith) in
    let rest = map_same f g xs (λ i h. same (suc i) (omega arith)) in
    simp (head, rest)

-- what one more entry asks: the entry e goes to slot s, the pages become pages', and its claim's card gets first and spare
pub record Grows (pages : List PageCard) (slots : List NumberedEntry) (cards : List ClaimCard) (places : List ℕ) (e : Entry) (s : ℕ) (pages' : List PageCard) (first spare : ℕ) : Type 0 where
  -- the claim has a card
  pub one : 1 ≤ e.claim
  pub has_card : e.claim ≤ length cards
  -- no entry lies at the slot, and it lies in a page in use
  pub fresh : (n : ℕ) → 1 ≤ n → n ≤ length places → place_of places n ≡ s → ⊥
  pub in_use : s < 16 * length pages'
  pub in_memory : 16 * length pages' ≤ length slots
  pub more : length pages ≤ length pages'
  -- the slot after an entry that is followed by another stays
  pub stays : (n : ℕ) → 1 ≤ n → n ≤ length places → 0 < last_of (claim_of slots places) (claim_of slots places n) (n - 1) → next_slot pages' (place_of places (last_of (claim_of slots places) (claim_of slots places n) (n - 1))) ≡ next_slot pages (place_of places (last_of (claim_of slots places) (claim_of slots places n) (n - 1)))
  -- a claim that has entries keeps its first page
  pub first_stays : 0 < (card_of cards e.claim).last → first ≡ (card_of cards e.claim).first
  -- the slot is the one after the claim's last entry
  pub here : s ≡ cond (eqb (card_of cards e.claim).last 0) (16 * first) (next_slot pages' (place_of places (card_of cards e.claim).last))
  -- free slots are counted on
  pub spare_is : spare ≡ 15 - s % 16
  pub balance : 16 * length pages' + (card_of cards e.claim).spare ≡ 16 * length pages + (1 + spare)

-- the state after one more entry: slot s is written, the claim's card moves on, and the list of places grows
module _
    (pages : List PageCard) (slots : List NumberedEntry) (cards : List ClaimCard) (places : List ℕ)
    (laid : Laid pages slots cards places)
    (e : Entry) (s : ℕ) (pages' : List PageCard) (first spare : ℕ)
    (g : Grows pages slots cards places e s pages' first spare)
  where
    abbrev written : NumberedEntry
    written = record { number = length places + 1; entry = e }

    abbrev slots' : List NumberedEntry
    slots' = set slots s written

    abbrev card' : ClaimCard
    card' = record { first = first; last = length places + 1; spare = spare }

    abbrev cards' : List ClaimCard
    cards' = set cards (e.claim - 1) card'

    abbrev places' : List ℕ
    places' = places ++ (s ∷ [])

    -- numbers up to the new one are old, or it
    split : (n : ℕ) → n ≤ length places' → (n ≤ length places) ⊎ (n ≡ length places + 1)
    split n h =
        let longer = length_push places s in
        elim (cases_eq n (length places + 1)) [ inl same ↦ inr same | inr other ↦ inl (omega arith) ]

    place_old : (n : ℕ) → 1 ≤ n → n ≤ length places → place_of places' n ≡ place_of places n
    place_old n a b = get_or_append_left places (s ∷ []) 0 (n - 1) (omega arith)

    place_new : place_of places' (length places + 1) ≡ s
    place_new = get_or_push places s 0 (length places + 1 - 1) (omega arith)

    slot_old : (n : ℕ) → 1 ≤ n → n ≤ length places → slot_at slots' (place_of places' n) ≡ slot_at slots (place_of places n)
    slot_old n a b = ap (slot_at slots') (place_old n a b) ∙ get_or-set_other slots s (place_of places n) written _ (g.fresh n a b)

    slot_new : slot_at slots' (place_of places' (length places + 1)) ≡ written
    slot_new = ap (slot_at slots') place_new ∙ get_or-set_same slots s written _ (omega arith)

    claim_old : (n : ℕ) → 1 ≤ n → n ≤ length places → claim_of slots' places' n ≡ claim_of slots places n
    claim_old n a b = ap (λ x. x.entry.claim) (slot_old n a b)

    last_old : (c n : ℕ) → n ≤ length places → last_of (claim_of slots' places') c n ≡ last_of (claim_of slots places) c n
    last_old c n h = last_same (claim_of slots' places') (claim_of slots places) c n (λ j a b. claim_old j a (omega arith))

    card_same : card_of cards' e.claim ≡ card'
    card_same = get_or-set_same cards (e.claim - 1) card' _ (omega arith)

    card_other : (c : ℕ) → 1 ≤ c → (c ≡ e.claim → ⊥) → card_of cards' c ≡ card_of cards c
    card_other c a other = get_or-set_other cards (e.claim - 1) (c - 1) card' _ (λ same. other (omega arith))

    numbered' : (n : ℕ) → 1 ≤ n → n ≤ length places' → (slot_at slots' (place_of places' n)).number ≡ n
    numbered' n a b =
        elim (split n b) [
          | inl old ↦ ap (λ x. x.number) (slot_old n a old) ∙ laid.numbered n a old
          | inr new ↦ ap (λ k. (slot_at slots' (place_of places' k)).number) new ∙ ap (λ x. x.number) slot_new ∙ sym new
        ]

    within' : (n : ℕ) → 1 ≤ n → n ≤ length places' → place_of places' n < 16 * length pages'
    within' n a b =
        elim (split n b) [
          | inl old ↦ omega (arith, place_old n a old, laid.within n a old)
          | inr new ↦ omega (arith, ap (place_of places') new, place_new)
        ]

    -- the first page of a claim that has an entry stays
    first_old : (n : ℕ) → 1 ≤ n → n ≤ length places → (card_of cards' (claim_of slots places n)).first ≡ (card_of cards (claim_of slots places n)).first
    first_old n a b =
        let c : ℕ = claim_of slots places n in
        let at = claim_known pages slots cards places laid n a b in
        elim (cases_eq c e.claim) [
          | inl same ↦
              let some : 0 < (card_of cards e.claim).last =
              omega (arith, laid.lasts e.claim g.one g.has_card, last_ge (claim_of slots places) e.claim (length places) n a b same) in
              ap (λ k. (card_of cards' k).first) same ∙ ap (λ x. x.first) card_same ∙ g.first_stays some ∙ ap (λ k. (card_of cards k).first) (sym same)
          | inr other ↦ ap (λ x. x.first) (card_other c at.0 other)
        ]

    -- an entry before an old one lies where it lay, and so does the slot after it
    after_old : (n m : ℕ) → 1 ≤ n → n ≤ length places → m ≡ last_of (claim_of slots places) (claim_of slots places n) (n - 1) → slot_after pages' cards' places' (claim_of slots places n) m ≡ slot_after pages cards places (claim_of slots places n) m
    after_old n m a b is =
        elim (cases_eq m 0) [
          | inl none ↦
              cond-true (eqb m 0) _ _ (eq-eqb m 0 none) ∙ ap (λ k. 16 * k) (first_old n a b) ∙ sym (cond-true (eqb m 0) _ _ (eq-eqb m 0 none))
          | inr some ↦
              let le : m ≤ n - 1 = omega (arith, last_le (claim_of slots places) (claim_of slots places n) (n - 1)) in
              let moved : next_slot pages' (place_of places m) ≡ next_slot pages (place_of places m) =
              ap (λ k. next_slot pages' (place_of places k)) is ∙ g.stays n a b (omega arith) ∙ ap (λ k. next_slot pages (place_of places k)) (sym is) in
              cond-false (eqb m 0) _ _ (ne_eqb m 0 some) ∙ ap (next_slot pages') (place_old m (omega arith) (omega arith)) ∙ moved
              ∙ sym (cond-false (eqb m 0) _ _ (ne_eqb m 0 some))
        ]

    after_new : cond (eqb (card_of cards e.claim).last 0) (16 * first) (next_slot pages' (place_of places (card_of cards e.claim).last)) ≡ slot_after pages' cards' places' e.claim (card_of cards e.claim).last
    after_new =
        let l : ℕ = (card_of cards e.claim).last in
        elim (cases_eq l 0) [
          | inl none ↦ cond-true (eqb l 0) _ _ (eq-eqb l 0 none) ∙ ap (λ x. 16 * x.first) (sym card_same) ∙ sym (cond-true (eqb l 0) _ _ (eq-eqb l 0 none))
          | inr some ↦
              let le : l ≤ length places = omega (arith, laid.lasts e.claim g.one g.has_card, last_le (claim_of slots places) e.claim (length places)) in
              cond-false (eqb l 0) _ _ (ne_eqb l 0 some) ∙ ap (next_slot pages') (sym (place_old l (omega arith) le)) ∙ sym (cond-false (eqb l 0) _ _ (ne_eqb l 0 some))
        ]

    linked' : (n : ℕ) → 1 ≤ n → n ≤ length places' → place_of places' n ≡ slot_after pages' cards' places' (claim_of slots' places' n) (last_of (claim_of slots' places') (claim_of slots' places' n) (n - 1))
    linked' n a b =
        let cl : ℕ → ℕ = claim_of slots places in
        let cl' : ℕ → ℕ = claim_of slots' places' in
        elim (split n b) [
          | inl old ↦
              let m : ℕ = last_of cl (cl n) (n - 1) in
              let before : last_of cl' (cl' n) (n - 1) ≡ m = ap (λ c. last_of cl' c (n - 1)) (claim_old n a old) ∙ last_old (cl n) (n - 1) (omega arith) in
              place_old n a old ∙ laid.linked n a old ∙ sym (after_old n m a old refl)
              ∙ ap (λ k. slot_after pages' cards' places' (cl n) k) (sym before)
              ∙ ap (λ c. slot_after pages' cards' places' c (last_of cl' (cl' n) (n - 1))) (sym (claim_old n a old))
          | inr new ↦
              let is : cl' n ≡ e.claim = ap cl' new ∙ ap (λ x. x.entry.claim) slot_new in
              let l : ℕ = (card_of cards e.claim).last in
              let before : last_of cl' (cl' n) (n - 1) ≡ l =
              ap (λ c. last_of cl' c (n - 1)) is ∙ ap (last_of cl' e.claim) (omega arith) ∙ last_old e.claim (length places) (omega arith)
              ∙ sym (laid.lasts e.claim g.one g.has_card) in
              ap (place_of places') new ∙ place_new ∙ g.here ∙ after_new
              ∙ ap (λ k. slot_after pages' cards' places' e.claim k) (sym before)
              ∙ ap (λ c. slot_after pages' cards' places' c (last_of cl' (cl' n) (n - 1))) (sym is)
        ]

    lasts' : (c : ℕ) → 1 ≤ c → c ≤ length cards' → (card_of cards' c).last ≡ last_of (claim_of slots' places') c (length places')
    lasts' c a b =
        let cl' : ℕ → ℕ = claim_of slots' places' in
        let in_cards : c ≤ length cards = omega (arith, length-set cards (e.claim - 1) card') in
        let new : cl' (length places + 1) ≡ e.claim = ap (λ x. x.entry.claim) slot_new in
        let step : last_of cl' c (length places') ≡ cond (eqb (cl' (length places + 1)) c) (length places + 1) (last_of cl' c (length places)) =
        ap (last_of cl' c) (length_push places s) ∙ last_more cl' c (length places) in
        elim (cases_eq c e.claim) [
          | inl same ↦ ap (λ k. (card_of cards' k).last) same ∙ ap (λ x. x.last) card_same ∙ sym (step ∙ cond-true _ _ _ (eq-eqb _ _ (new ∙ sym same)))
          | inr other ↦
              ap (λ x. x.last) (card_other c a other) ∙ laid.lasts c a in_cards ∙ sym (last_old c (length places) (omega arith))
              ∙ sym (step ∙ cond-false _ _ _ (ne_eqb _ _ (λ is. other (sym is ∙ new))))
        ]

    spare_old : (l : ℕ) → l ≤ length places → spare_after places l ≡ spare_after places' l
    spare_old l h =
        elim (cases_eq l 0) [
          | inl none ↦ cond-true (eqb l 0) _ _ (eq-eqb l 0 none) ∙ sym (cond-true (eqb l 0) _ _ (eq-eqb l 0 none))
          | inr some ↦
              cond-false (eqb l 0) _ _ (ne_eqb l 0 some) ∙ ap (λ k. 15 - k % 16) (sym (place_old l (omega arith) h))
              ∙ sym (cond-false (eqb l 0) _ _ (ne_eqb l 0 some))
        ]

    spares' : (c : ℕ) → 1 ≤ c → c ≤ length cards' → (card_of cards' c).spare ≡ spare_after places' (card_of cards' c).last
    spares' c a b =
        let in_cards : c ≤ length cards = omega (arith, length-set cards (e.claim - 1) card') in
        elim (cases_eq c e.claim) [
          | inl same ↦
              let card : card_of cards' c ≡ card' = ap (card_of cards') same ∙ card_same in
              ap (λ x. x.spare) card ∙ g.spare_is ∙ ap (λ k. 15 - k % 16) (sym place_new)
              ∙ sym (cond-false (eqb (length places + 1) 0) _ _ (ne_eqb (length places + 1) 0 (λ none. omega arith)))
              ∙ ap (λ x. spare_after places' x.last) (sym card)
          | inr other ↦
              let card : card_of cards' c ≡ card_of cards c = card_other c a other in
              ap (λ x. x.spare) card ∙ laid.spares c a in_cards ∙ spare_old (card_of cards c).last (omega (arith, laid.lasts c a in_cards, last_le (claim_of slots places) c (length places)))
              ∙ ap (λ x. spare_after places' x.last) (sym card)
        ]

    counted' : 16 * length pages' ≡ length places' + spare_slots cards'
    counted' = omega (arith, g.balance, laid.counted, length_push places s, sum_by-set (λ card. card.spare) cards (e.claim - 1) card' (record { first = 0; last = 0; spare = 0 }) (omega arith))

    pub entries_more : entries_of slots' places' ≡ entries_of slots places ++ (e ∷ [])
    entries_more =
        let f : ℕ → Entry = λ k. (slot_at slots k).entry in
        let f' : ℕ → Entry = λ k. (slot_at slots' k).entry in
        let old = map_same f' f places
        (λ i h. ap (λ x. x.entry) (get_or-set_other slots s (get_or places i 0) written _ (λ is. g.fresh (i + 1) (omega arith) (omega arith) (ap (λ k. get_or places k 0) (omega arith) ∙ is)))) in
        map_push f' places s ∙ ap (λ xs. xs ++ (f' s ∷ [])) old
        ∙ ap (λ x. entries_of slots places ++ (x.entry ∷ [])) (get_or-set_same slots s written _ (omega arith))

    pub laid_more : Laid pages' slots' cards' places'
    laid_more = record {
      numbered = numbered';
      within = within';
      linked = linked';
      lasts = lasts';
      spares = spares';
      counted = counted';
      fit = omega (arith, length-set slots s written);
      known =
          ap (λ n. claims_known n (entries_of slots' places')) (length-set cards (e.claim - 1) card')
          ∙ ap (claims_known (length cards)) entries_more
          ∙ claims_push (length cards) (entries_of slots places) e laid.known (and_from _ _ (le-leb 1 e.claim g.one) (le-leb e.claim (length cards) g.has_card));
    }
