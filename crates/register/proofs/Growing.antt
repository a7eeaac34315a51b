-- Adding an entry to the paged register keeps its layout, whether its page has a free slot or a page is taken into use.
-- Assumes nothing.
use Rattle.std.proofs.Common.{◌≡◌, ℕ, ◌+◌, ◌-◌, ◌*◌, ◌/◌, ◌%◌, ◌<◌, ◌≤◌, Bool, true, false, cond, eqb, ltb, List, [], ◌∷◌, ◌++◌, length, get_or, set, sym, refl, ap, ◌∙◌, inl, inr, arith}
use Rattle.std.proofs.lemmas.List.{get_or_append_left, get_or_default, get_or-set_same, get_or-set_other, length_push, length-set}
use Rattle.std.proofs.lemmas.List.Sums.{sum_by-le, sum_by-set}
use Rattle.std.proofs.lemmas.Bool.{cond-true, cond-false, eq-eqb, ne_eqb, eqb-true, eqb-false, lt-ltb, le-ltb, cases_eq, cases_lt}
use Rattle.register.specs.declared.cards.ClaimCard.{ClaimCard}
use Rattle.register.specs.declared.cards.PageCard.{PageCard}
use Rattle.register.specs.declared.entry.Entry.{Entry}
use Rattle.register.specs.declared.numbered.NumberedEntry.{NumberedEntry}
use Rattle.register.specs.Pages.{Laid, page_at, card_of, place_of, entries_of, claim_of, last_of, next_slot, spare_slots, spare_after, pages_for, paged_capacity, free_slot, page_added, pages_after, card_after}
use Rattle.register.proofs.Last.{last_le}
use Rattle.register.proofs.Laying.{Grows, not_followed, laid_more, entries_more}

-- no claim leaves more than 15 slots of a page
spare_small : (places : List ℕ) (n : ℕ) → spare_after places n ≤ 15
spare_small places n =
    elim (cases_eq n 0) [
      | inl none ↦ omega (arith, cond-true (eqb n 0) 0 (15 - place_of places n % 16) (eq-eqb n 0 none))
      | inr some ↦ omega (arith, cond-false (eqb n 0) 0 (15 - place_of places n % 16) (ne_eqb n 0 some))
    ]

spares_small : (cards : List ClaimCard) (d : ClaimCard) → ((i : ℕ) → i < length cards → (get_or cards i d).spare ≤ 15) → spare_slots cards ≤ 15 * length cards
spares_small cards d small = omega (arith, sum_by-le (λ card. card.spare) 15 cards (λ i e h. omega (arith, small i h, ap (λ x. x.spare) (get_or_default cards i e d h))))

abbrev no_card : ClaimCard
no_card = record { first = 0; last = 0; spare = 0 }

abbrev full_card : ClaimCard
full_card = record { first = 0; last = 0; spare = 15 }

module _ (pages : List PageCard) (slots : List NumberedEntry) (cards : List ClaimCard) (places : List ℕ) (laid : Laid pages slots cards places) where
  card_small : (i : ℕ) → i < length cards → (get_or cards i no_card).spare ≤ 15
  card_small i h =
      let is : card_of cards (i + 1) ≡ get_or cards i no_card = ap (λ k. get_or cards k no_card) (omega arith) in
      omega (arith, ap (λ x. x.spare) is, laid.spares (i + 1) (omega arith) (omega arith), spare_small places (card_of cards (i + 1)).last)

  -- there are at most so many slots in use
  pub few_slots : 16 * length pages ≤ length places + 15 * length cards
  few_slots = omega (arith, laid.counted, spares_small cards no_card card_small)

  -- a claim whose last page is full finds a page, while fewer entries than the capacity are kept
  pub page_free : (c page_cards rooms : ℕ) → 1 ≤ c → c ≤ length cards → (card_of cards c).spare ≡ 0 → length places < paged_capacity page_cards (length slots) (length cards) rooms → length pages < pages_for page_cards (length slots)
  page_free c page_cards rooms one known none room =
      let small = spares_small (set cards (c - 1) full_card) no_card
      (λ i h.
      let within : i < length cards = omega (arith, length-set cards (c - 1) full_card) in
      elim (cases_eq i (c - 1)) [
        | inl same ↦ omega (arith, ap (λ k. (get_or (set cards (c - 1) full_card) k no_card).spare) same, ap (λ x. x.spare) (get_or-set_same cards (c - 1) full_card no_card (omega arith)))
        | inr other ↦ omega (arith, ap (λ x. x.spare) (get_or-set_other cards (c - 1) i full_card no_card other), card_small i within)
      ]) in
      omega (arith, small, length-set cards (c - 1) full_card, sum_by-set (λ card. card.spare) cards (c - 1) full_card no_card (omega arith), laid.counted)

  -- the entry before another of its claim is at no other claim's last slot, nor at its own
  abbrev before : ℕ → ℕ
  before n = last_of (claim_of slots places) (claim_of slots places n) (n - 1)

  module _ (e : Entry) (one : 1 ≤ e.claim) (has_card : e.claim ≤ length cards) where
    abbrev card : ClaimCard
    card = card_of cards e.claim

    abbrev last_slot : ℕ
    last_slot = place_of places card.last

    last_in : card.last ≤ length places
    last_in = omega (arith, laid.lasts e.claim one has_card, last_le (claim_of slots places) e.claim (length places))

    not_last : (n : ℕ) → 1 ≤ n → n ≤ length places → 0 < before n → 0 < card.last → place_of places (before n) ≡ last_slot → ⊥
    not_last n a b some_before some_last same =
        let is = laid.lasts e.claim one has_card in
        not_followed pages slots cards places laid n e.claim a b some_before (omega arith) (same ∙ ap (place_of places) is)

    -- where no slot is free and the claim has entries, the last of them ends its page
    page_full : card.spare ≡ 0 → 0 < card.last → last_slot % 16 ≡ 15
    page_full none some =
        omega (arith, laid.spares e.claim one has_card, cond-false (eqb card.last 0) 0 (15 - last_slot % 16) (ne_eqb card.last 0 (λ z. omega arith)))

    -- where a slot is free, the claim has entries, and the last of them does not end its page
    page_open : 0 < card.spare → (0 < card.last) × (last_slot % 16 + card.spare ≡ 15)
    page_open some =
        elim (cases_eq card.last 0) [
          | inl none ↦ absurd (omega (arith, laid.spares e.claim one has_card, cond-true (eqb card.last 0) 0 (15 - last_slot % 16) (eq-eqb card.last 0 none)))
          | inr is ↦
              let spare = laid.spares e.claim one has_card ∙ cond-false (eqb card.last 0) 0 (15 - last_slot % 16) (ne_eqb card.last 0 is) in
              (omega arith, omega (arith, spare))
        ]

    next_inner : (k : List PageCard) (s : ℕ) → s % 16 < 15 → next_slot k s ≡ s + 1
    next_inner k s h = cond-true (ltb (s % 16) 15) (s + 1) (16 * (page_at k (s / 16)).next) (lt-ltb (s % 16) 15 h)

    next_outer : (k : List PageCard) (s : ℕ) → 15 ≤ s % 16 → next_slot k s ≡ 16 * (page_at k (s / 16)).next
    next_outer k s h = cond-false (ltb (s % 16) 15) (s + 1) (16 * (page_at k (s / 16)).next) (le-ltb (s % 16) 15 h)

    -- a slot behind the last entry is free: it could only be the next one of the last entry, which has none
    inner_fresh : 0 < card.spare → (n : ℕ) → 1 ≤ n → n ≤ length places → place_of places n ≡ last_slot + 1 → ⊥
    inner_fresh some n a b same =
        let free = page_open some in
        let m : ℕ = before n in
        elim (cases_eq m 0) [
          | inl none ↦ omega (arith, free.1, laid.linked n a b, cond-true (eqb m 0) (16 * (card_of cards (claim_of slots places n)).first) (next_slot pages (place_of places m)) (eq-eqb m 0 none))
          | inr is ↦
              let link = laid.linked n a b ∙ cond-false (eqb m 0) (16 * (card_of cards (claim_of slots places n)).first) (next_slot pages (place_of places m)) (ne_eqb m 0 is) in
              elim (cases_lt (place_of places m % 16) 15) [
                | inl inner ↦ not_last n a b (omega arith) free.0 (omega (arith, link, next_inner pages (place_of places m) inner))
                | inr outer ↦ omega (arith, free.1, link, next_outer pages (place_of places m) outer)
              ]
        ]

    -- the claim's first page, which is the page taken into use where it has no entry yet
    abbrev first : ℕ
    first = cond (eqb card.last 0) (length pages) card.first

    first_stays : 0 < card.last → first ≡ card.first
    first_stays some = cond-false (eqb card.last 0) (length pages) card.first (ne_eqb card.last 0 (λ z. omega arith))

    -- a slot behind the last entry
    grows_inner : 0 < card.spare → Grows pages slots cards places e (last_slot + 1) pages first (card.spare - 1)
    grows_inner some =
        let free = page_open some in
        let at = laid.within card.last (omega arith) last_in in
        record {
          one = one;
          has_card = has_card;
          fresh = inner_fresh some;
          in_use = omega (arith, free.1);
          in_memory = laid.fit;
          more = omega arith;
          stays = λ n a b h. refl;
          first_stays = first_stays;
          here = sym (cond-false (eqb card.last 0) _ _ (ne_eqb card.last 0 (λ z. omega arith)) ∙ next_inner pages last_slot (omega (arith, free.1)));
          spare_is = omega (arith, free.1);
          balance = omega arith;
        }

    abbrev blank : PageCard
    blank = record { next = 0 }

    abbrev link : PageCard
    link = record { next = length pages }

    -- a page more, whether another page links to it or not
    added_first : card.last ≡ 0 → page_added pages card last_slot ≡ pages ++ (blank ∷ [])
    added_first none = cond-true (eqb card.last 0) _ _ (eq-eqb card.last 0 none)

    added_linked : 0 < card.last → page_added pages card last_slot ≡ set (pages ++ (blank ∷ [])) (last_slot / 16) link
    added_linked some = cond-false (eqb card.last 0) _ _ (ne_eqb card.last 0 (λ z. omega arith))

    added_length : length (page_added pages card last_slot) ≡ length pages + 1
    added_length =
        elim (cases_eq card.last 0) [
          | inl none ↦ ap length (added_first none) ∙ length_push pages blank
          | inr some ↦ ap length (added_linked (omega arith)) ∙ length-set (pages ++ (blank ∷ [])) (last_slot / 16) link ∙ length_push pages blank
        ]

    added_same : (i : ℕ) → i < length pages → (0 < card.last → i ≡ last_slot / 16 → ⊥) → page_at (page_added pages card last_slot) i ≡ page_at pages i
    added_same i h other =
        elim (cases_eq card.last 0) [
          | inl none ↦ ap (λ k. page_at k i) (added_first none) ∙ get_or_append_left pages (blank ∷ []) blank i h
          | inr some ↦
              let is : 0 < card.last = omega arith in
              ap (λ k. page_at k i) (added_linked is) ∙ get_or-set_other (pages ++ (blank ∷ [])) (last_slot / 16) i link blank (other is) ∙ get_or_append_left pages (blank ∷ []) blank i h
        ]

    added_link : 0 < card.last → (page_at (page_added pages card last_slot) (last_slot / 16)).next ≡ length pages
    added_link some =
        let at = laid.within card.last some last_in in
        ap (λ k. (page_at k (last_slot / 16)).next) (added_linked some)
        ∙ ap (λ x. x.next) (get_or-set_same (pages ++ (blank ∷ [])) (last_slot / 16) link blank (omega (arith, length_push pages blank)))

    -- the slot after an entry that is followed by another stays: the one link that is set belongs to a last entry
    outer_stays : card.spare ≡ 0 → (n : ℕ) → 1 ≤ n → n ≤ length places → 0 < before n → next_slot (page_added pages card last_slot) (place_of places (before n)) ≡ next_slot pages (place_of places (before n))
    outer_stays none n a b some =
        let s : ℕ = place_of places (before n) in
        let in_use = laid.within (before n) some (omega (arith, last_le (claim_of slots places) (claim_of slots places n) (n - 1))) in
        elim (cases_lt (s % 16) 15) [
          | inl inner ↦ next_inner (page_added pages card last_slot) s inner ∙ sym (next_inner pages s inner)
          | inr outer ↦
              let same = added_same (s / 16) (omega arith) (λ is j. not_last n a b some is (omega (arith, page_full none is))) in
              next_outer (page_added pages card last_slot) s outer ∙ ap (λ x. 16 * x.next) same ∙ sym (next_outer pages s outer)
        ]

    -- the first slot of a page that is taken into use
    grows_outer : card.spare ≡ 0 → 16 * (length pages + 1) ≤ length slots → Grows pages slots cards places e (16 * length pages) (page_added pages card last_slot) first 15
    grows_outer full fits =
        let longer = added_length in
        record {
          one = one;
          has_card = has_card;
          fresh = λ n a b same. omega (arith, laid.within n a b);
          in_use = omega arith;
          in_memory = omega arith;
          more = omega arith;
          stays = outer_stays full;
          first_stays = first_stays;
          here =
              elim (cases_eq card.last 0) [
                | inl none ↦
                    sym
                    (cond-true (eqb card.last 0) _ _ (eq-eqb card.last 0 none)
                    ∙ ap (λ k. 16 * k) (cond-true (eqb card.last 0) (length pages) card.first (eq-eqb card.last 0 none)))
                | inr later ↦
                    let some : 0 < card.last = omega arith in
                    sym
                    (cond-false (eqb card.last 0) _ _ (ne_eqb card.last 0 later)
                    ∙ next_outer (page_added pages card last_slot) last_slot (omega (arith, page_full full some))
                    ∙ ap (λ k. 16 * k) (added_link some))
              ];
          spare_is = omega arith;
          balance = omega arith;
        }

    -- the layout and the entries once e stands at slot s
    abbrev pub Added : List PageCard → (s spare : ℕ) → Type 0
    Added pages' s spare =
        Laid pages' (set slots s (record { number = length places + 1; entry = e }))
        (set cards (e.claim - 1) (record { first = first; last = length places + 1; spare = spare })) (places ++ (s ∷ []))
        × (entries_of (set slots s (record { number = length places + 1; entry = e })) (places ++ (s ∷ [])) ≡ entries_of slots places ++ (e ∷ []))

    added_by : (pages' : List PageCard) (s spare : ℕ) → Grows pages slots cards places e s pages' first spare → Added pages' s spare
    added_by pages' s spare g = (laid_more pages slots cards places laid e s pages' first spare g, entries_more pages slots cards places laid e s pages' first spare g)

    by_spare : (full : Bool) → (full ≡ true → Added (page_added pages card last_slot) (16 * length pages) 15) → (full ≡ false → Added pages (last_slot + 1) (card.spare - 1)) → Added (cond full (page_added pages card last_slot) pages) (cond full (16 * length pages) (last_slot + 1)) (cond full 15 (card.spare - 1))
    by_spare true outer inner = outer refl
    by_spare false outer inner = inner refl

    pub added : (page_cards rooms : ℕ) → length places < paged_capacity page_cards (length slots) (length cards) rooms → Added (pages_after pages card last_slot) (free_slot pages card last_slot) (card_after (length pages) card (length places + 1)).spare
    added page_cards rooms room =
        by_spare (eqb card.spare 0)
        (λ full.
        let none = eqb-true card.spare 0 full in
        added_by (page_added pages card last_slot) (16 * length pages) 15 (grows_outer none (omega (arith, page_free e.claim page_cards rooms one has_card none room))))
        (λ free. added_by pages (last_slot + 1) (card.spare - 1) (grows_inner (omega (arith, eqb-false card.spare 0 free))))
