-- How the paged register lays entries out in memory. Assumes nothing.
--
-- Memory is cut into pages of 16 slots, and a page belongs to one claim. The entries of a claim fill its first page slot by
-- slot, then the page to which that page's card links, and so on. A slot holds an entry and its number; a list of places
-- tells the slot of each entry by number.
use Rattle.std.specs.Prelude.{◌≡◌, ℕ, zero, suc, ◌+◌, ◌-◌, ◌*◌, ◌/◌, ◌%◌, ◌<◌, ◌≤◌, min, true, cond, List, [], ◌∷◌, ◌++◌, map, length, ◌==◌, nat_lt, slice_index, slice_index_or, slice_set, sum_by, refl}
use Rattle.values.specs.declared.day.Day.{Day}
use Rattle.register.specs.declared.entry.Content.TheVariants.{Void}
use Rattle.register.specs.declared.entry.Entry.{Entry}
use Rattle.register.specs.declared.cards.ClaimCard.{ClaimCard}
use Rattle.register.specs.declared.cards.PageCard.{PageCard}
use Rattle.register.specs.declared.numbered.NumberedEntry.{NumberedEntry}
use Rattle.register.specs.Registers.{claims_known}

-- what a look past the end of memory would find; no promise rests on it
abbrev pub blank_day : Day
blank_day = record { number = 19000101; lawful = refl }

abbrev pub blank_entry : Entry
blank_entry = record { booked = blank_day; claim = 0; content = Void (record { names = 0 }) }

abbrev pub slot_at : List NumberedEntry → ℕ → NumberedEntry
slot_at slots s = slice_index_or slots s (record { number = 0; entry = blank_entry })

abbrev pub page_at : List PageCard → ℕ → PageCard
page_at pages k = slice_index_or pages k (record { next = 0 })

-- the card of a claim, claims being numbered from 1
abbrev pub card_of : List ClaimCard → ℕ → ClaimCard
card_of cards claim = slice_index_or cards (claim - 1) (record { first = 0; last = 0; spare = 0 })

-- the slot of the entry with a number, entries being numbered from 1
abbrev pub place_of : List ℕ → ℕ → ℕ
place_of places n = slice_index places (n - 1)

-- the entries in booking order
abbrev pub entries_of : List NumberedEntry → List ℕ → List Entry
entries_of slots places = map (λ s. (slot_at slots s).entry) places

-- the claim of the entry with a number
abbrev pub claim_of : List NumberedEntry → List ℕ → ℕ → ℕ
claim_of slots places n = (slot_at slots (place_of places n)).entry.claim

-- the number of the last entry of a claim among the first n, 0 where there is none
abbrev pub last_of : (claim_at : ℕ → ℕ) (claim n : ℕ) → ℕ
last_of claim_at claim zero = 0
last_of claim_at claim (suc n) = cond (claim_at (suc n) == claim) (suc n) (last_of claim_at claim n)

-- the slot after a slot: the next of its page, or the first of the page that follows
abbrev pub next_slot : List PageCard → ℕ → ℕ
next_slot pages s = cond (nat_lt (s % 16) 15) (s + 1) (16 * (page_at pages (s / 16)).next)

-- the slot at which the entry after the entry m of a claim lies, m being 0 for the claim's first
abbrev pub slot_after : List PageCard → List ClaimCard → List ℕ → (claim m : ℕ) → ℕ
slot_after pages cards places claim m = cond (m == 0) (16 * (card_of cards claim).first) (next_slot pages (place_of places m))

-- the pages for which there are cards and slots
abbrev pub pages_for : (cards slots : ℕ) → ℕ
pages_for cards slots = min (min cards (slots / 16)) 65536

-- how many entries surely fit: every claim may leave up to 15 slots of its last page unused
abbrev pub paged_capacity : (cards slots claims places : ℕ) → ℕ
paged_capacity cards slots claims places = min (min (16 * pages_for cards slots - 15 * claims) places) 65536

-- the free slots of all claims' last pages
abbrev pub spare_slots : List ClaimCard → ℕ
spare_slots cards = sum_by (λ card. card.spare) cards

-- the slots behind an entry in its page, none where there is no entry
abbrev pub spare_after : List ℕ → ℕ → ℕ
spare_after places n = cond (n == 0) 0 (15 - place_of places n % 16)

-- Where a claim's next entry goes, by the claim's card and the slot of its last entry: behind that entry while the page has
-- a free slot, else to the start of a page that is taken into use.
abbrev pub free_slot : List PageCard → ClaimCard → (last_slot : ℕ) → ℕ
free_slot pages card last_slot = cond (card.spare == 0) (16 * length pages) (last_slot + 1)

-- a page more in use; the page of the claim's last entry, if there is one, links to it
abbrev pub page_added : List PageCard → ClaimCard → (last_slot : ℕ) → List PageCard
page_added pages card last_slot =
    cond (card.last == 0) (pages ++ (record { next = 0 } ∷ []))
    (slice_set (pages ++ (record { next = 0 } ∷ [])) (last_slot / 16) (record { next = length pages }))

abbrev pub pages_after : List PageCard → ClaimCard → (last_slot : ℕ) → List PageCard
pages_after pages card last_slot = cond (card.spare == 0) (page_added pages card last_slot) pages

-- the claim's card once the entry numbered n is its last, so many pages having been in use before it; a claim's first entry
-- goes to the page that is taken into use
abbrev pub card_after : (pages : ℕ) → ClaimCard → (n : ℕ) → ClaimCard
card_after pages card n = record {
  first = cond (card.last == 0) pages card.first;
  last = n;
  spare = cond (card.spare == 0) 15 (card.spare - 1);
}

-- How the parts of a paged register fit together, fact by fact.
module _ (pages : List PageCard) (slots : List NumberedEntry) (cards : List ClaimCard) (places : List ℕ) where
  -- the slot of an entry holds its number
  abbrev pub Numbered : Type 0
  Numbered = (n : ℕ) → 1 ≤ n → n ≤ length places → (slot_at slots (place_of places n)).number ≡ n

  -- entries lie in pages that are in use
  abbrev pub Within : Type 0
  Within = (n : ℕ) → 1 ≤ n → n ≤ length places → place_of places n < 16 * length pages

  -- an entry lies at the slot after that of its claim's entry before it
  abbrev pub Linked : Type 0
  Linked = (n : ℕ) → 1 ≤ n → n ≤ length places → place_of places n ≡ slot_after pages cards places (claim_of slots places n) (last_of (claim_of slots places) (claim_of slots places n) (n - 1))

  -- a claim's card has the number of its last entry
  abbrev pub Lasts : Type 0
  Lasts = (c : ℕ) → 1 ≤ c → c ≤ length cards → (card_of cards c).last ≡ last_of (claim_of slots places) c (length places)

  -- and how many slots are free behind it in its page
  abbrev pub Spares : Type 0
  Spares = (c : ℕ) → 1 ≤ c → c ≤ length cards → (card_of cards c).spare ≡ spare_after places (card_of cards c).last

  -- each slot of a page in use holds an entry or is one of the free ones
  abbrev pub Counted : Type 0
  Counted = 16 * length pages ≡ length places + spare_slots cards

  -- the pages in use have their slots
  abbrev pub Fit : Type 0
  Fit = 16 * length pages ≤ length slots

  -- every entry's claim has a card
  abbrev pub Known : Type 0
  Known = claims_known (length cards) (entries_of slots places) ≡ true

  -- all of them
  pub record Laid : Type 0 where
    pub numbered : Numbered
    pub within : Within
    pub linked : Linked
    pub lasts : Lasts
    pub spares : Spares
    pub counted : Counted
    pub fit : Fit
    pub known : Known
