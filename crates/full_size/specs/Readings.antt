-- What booking a book and reading it back come to. Assumes nothing.
use Rattle.std.specs.Prelude.{ℕ, zero, suc, ◌+◌, ◌%◌, ◌^◌, List, [], ◌∷◌, fold, ℤ, pos}
use Rattle.std.specs.Int.{w64}
use Rattle.std.proofs.Common.{of_z}
use Rattle.register.specs.declared.entry.Content.{Content}
use Rattle.register.specs.declared.entry.Content.TheVariants.{Opening, Payment, ReserveChange, Correction, Void, Redating}
use Rattle.register.specs.declared.entry.Entry.{Entry}
use Rattle.register.specs.declared.numbered.NumberedEntry.{NumberedEntry}
use Rattle.register.specs.Registers.{Meaning, after_add, claim_entries_after, entries_after}
use Rattle.full_size.specs.declared.sums.Sums.{Sums}

abbrev cents_in : Content → ℤ
cents_in (Opening o) = pos 0
cents_in (Payment p) = p.amount.cents
cents_in (ReserveChange r) = r.amount.cents
cents_in (Correction k) = k.amount.cents
cents_in (Void v) = pos 0
cents_in (Redating d) = pos 0

-- the amount of an entry in cents, 0 where it has none
abbrev pub cents_of : Entry → ℤ
cents_of e = cents_in e.content

-- the sums once a numbered entry is read, modulo 2^64
abbrev pub sums_after : Sums → NumberedEntry → Sums
sums_after s read = record {
  entries = (s.entries + 1) % 2 ^ 64;
  numbers = (s.numbers + read.number) % 2 ^ 64;
  claims = (s.claims + read.entry.claim) % 2 ^ 64;
  booked = (s.booked + read.entry.booked.number) % 2 ^ 64;
  cents = (s.cents + of_z w64 (cents_of read.entry)) % 2 ^ 64;
}

-- the meaning of a register once every entry of a list was put to it
abbrev pub booked : Meaning → List Entry → Meaning
booked m [] = m
booked m (e ∷ es) = booked (after_add m e) es

-- the sums once all entries of a list are read
abbrev pub read : List Entry → Sums → Sums
read es s = fold sums_after s (entries_after es 0)

-- the sums once the entries of a claim are read
abbrev pub walked : List Entry → (claim : ℕ) → Sums → Sums
walked es claim s = fold sums_after s (claim_entries_after es claim 0)

-- the sums once those of the claims from 1 to the last are read, claim by claim
abbrev pub all_walked : List Entry → (last : ℕ) → Sums → Sums
all_walked es zero s = s
all_walked es (suc c) s = walked es (suc c) (all_walked es c s)
