-- What is promised of every row of calls from a new cube on. Assumes nothing.
use Rattle.std.specs.Prelude.{◌≡◌, ℕ, ◌<◌, ◌≤◌, cond, List, [], ◌∷◌, length, replicate, ℤ, pos, ◌+ℤ◌, neg_ℤ, ◌≤ℤ◌, Some, None, filter, Option, slice_index_or}
use Rattle.values.specs.declared.day.Day.{Day}
use Rattle.register.specs.declared.entry.Entry.{Entry}
use Rattle.cube.specs.Calls.{Call, Ledger, after, brought_in, entry_of, next}
use Rattle.cube.specs.Queries.{is_booked_by, known_on, queried}
use Rattle.cube.specs.Sheets.{sheet_length}
use Rattle.cube.specs.Triangles.{sum_at, triangle}

-- a new cube, as an accepted start leaves it: no entry, no draft, a cleared sheet
pub record New (l : Ledger) : Type 0 where
  pub empty : l.state.book.entries ≡ []
  pub undrafted : l.state.draft ≡ None
  pub cleared : l.sheet ≡ replicate (sheet_length l.state.cohort) (pos 0)
  -- as in every register
  pub few : l.state.book.capacity ≤ 65536

-- an entry that was booked, and the sheet that stood after it
pub record Booked : Type 0 where
  pub entry : Entry
  pub sheet : List ℤ

abbrev pub noted : Option Entry → List ℤ → List Booked → List Booked
noted None sheet later = later
noted (Some e) sheet later = record { entry = e; sheet = sheet } ∷ later

-- what a row of calls booked, with the sheets that stood
abbrev pub history : Ledger → List Call → List Booked
history l [] = []
history l (call ∷ calls) = noted (entry_of l.state call) (next l call).sheet (history (next l call) calls)

-- the sheet that stood after the last entry booked on or before the day; where there is none, the sheet from before
abbrev pub stood_on : Day → List ℤ → List Booked → List ℤ
stood_on day before [] = before
stood_on day before (b ∷ later) = stood_on day (cond (is_booked_by day b.entry) b.sheet before) later

-- the largest figure that a cell can come to: 65,536 entries of 100,000,000,000 cents each
abbrev pub most_cents : ℕ
most_cents = 6553600000000000

-- the promise, for one row of calls from the ledger l on
pub record Promised (l : Ledger) (calls : List Call) : Type 0 where
  -- the sheet keeps its length
  pub long : length (after l calls).sheet ≡ sheet_length l.state.cohort
  -- each cell is the sum over the standing movements and the opened claims, placed by the claim days in force
  pub cells : (k : ℕ) → k < sheet_length l.state.cohort → slice_index_or (after l calls).sheet k (pos 0) ≡ sum_at k (triangle l.state.cohort None (after l calls).state.book.entries)
  -- and none passes the bound
  pub low : (k : ℕ) → neg_ℤ (pos most_cents) ≤ℤ slice_index_or (after l calls).sheet k (pos 0)
  pub high : (k : ℕ) → slice_index_or (after l calls).sheet k (pos 0) ≤ℤ pos most_cents
  -- with one call more, a cell differs by exactly what the accepted entry brings to it; a call that books none brings nothing
  pub differs : (call : Call) (k : ℕ) → k < sheet_length l.state.cohort → slice_index_or (next (after l calls) call).sheet k (pos 0) ≡ slice_index_or (after l calls).sheet k (pos 0) +ℤ sum_at k (brought_in (after l calls).state (entry_of (after l calls).state call))
  -- a query has in each cell the sum over what was known, as far as it falls on or before the value day
  pub drawn : (known valued : Day) (k : ℕ) → k < sheet_length l.state.cohort → slice_index_or (queried (after l calls).state known valued) k (pos 0) ≡ sum_at k (triangle l.state.cohort (Some valued) (known_on known (after l calls).state.book.entries))
  -- what is known on a day are the entries booked on or before it
  pub known : (day : Day) → known_on day (after l calls).state.book.entries ≡ filter (is_booked_by day) (after l calls).state.book.entries
  -- a query as at a day gives the sheet that stood after the last entry so far that was booked on or before it, or the cleared one
  pub recalls : (day : Day) → queried (after l calls).state day day ≡ stood_on day l.sheet (history l calls)

-- the law over whole runs: the promise holds of every row of calls, with any arguments, in any order, refused ones among them
abbrev pub Lawful : Ledger → Type 0
Lawful l = (calls : List Call) → Promised l calls
