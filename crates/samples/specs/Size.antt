-- What comes evenly over a book, and what words name a book's size. Assumes nothing.
use Rattle.std.specs.Prelude.{ℕ, ◌*◌, ◌/◌, max, Bool, ◌&&◌, nat_le, nat_lt, Option, None, Some, MatchOption, String, string_bytes, ⊤}
use Rattle.samples.specs.Arguments.{IsNumberUpTo, number_of}

-- how much of a total has come by the entry with an index, of so many entries
abbrev pub come_by : (entries index total : ℕ) → ℕ
come_by entries index total = index * total / max entries 1

-- the entry with an index opens a claim, where so many are open by then
abbrev pub opens_claim : (entries claims index opened : ℕ) → Bool
opens_claim entries claims index opened = nat_lt opened claims && nat_le opened (come_by entries index claims)

-- a word, where there is one, writes a number up to a bound
abbrev pub Fits : {Z : Type 0} → (most : ℕ) → Option (String Z) → Type 0
Fits most word = MatchOption word ⊤ (λ text. IsNumberUpTo most (string_bytes text))

-- the number that a word writes, the default where there is no word
abbrev pub named : {Z : Type 0} → (default : ℕ) → Option (String Z) → ℕ
named default None = default
named default (Some text) = number_of (string_bytes text)
