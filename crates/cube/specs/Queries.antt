-- A query: the triangle as it was known on a day. Assumes nothing.
use Rattle.std.specs.Prelude.{◌≡◌, ℕ, Bool, not, List, [], length, take, ℤ, Some, None, Ok, Err, count_by, Option, Result, ◌==◌, nat_le}
use Rattle.values.specs.Cohorts.{Meaning}
use Rattle.values.specs.declared.day.Day.{Day}
use Rattle.register.specs.declared.entry.Entry.{Entry}
use Rattle.cube.specs.declared.fault.CallFault.{CallFault}
use Rattle.cube.specs.declared.fault.CallFault.TheVariants.{SheetLength}
use Rattle.cube.specs.declared.fault.QueryFault.{QueryFault}
use Rattle.cube.specs.declared.fault.QueryFault.TheVariants.{Refused, OutOfMemory}
use Rattle.cube.specs.Model.{State, refused_if}
use Rattle.cube.specs.Sheets.{Share, sheet_length}
use Rattle.cube.specs.Triangles.{triangle_part, triangle_sheet}

-- the entry was booked on or before the day
abbrev pub is_booked_by : Day → Entry → Bool
is_booked_by day e = nat_le e.booked.number day.number

-- how many entries were booked on or before the day
abbrev pub booked_by : Day → List Entry → ℕ
booked_by day es = count_by (is_booked_by day) es

-- the entries that were known on the day. They are booked in the order of their days, so these are the first ones.
abbrev pub known_on : Day → List Entry → List Entry
known_on day es = take (booked_by day es) es

-- what the entry numbered n, if there is one, has in the triangle of the list
abbrev pub part_at : Meaning → Option Day → List Entry → ℕ → Option Entry → List Share
part_at m valued es n None = []
part_at m valued es n (Some e) = triangle_part m valued es n e

-- Query: into an answer sheet of the right length
abbrev pub query_checked : State → (answer : ℕ) → Result (Unit {0}) CallFault
query_checked s answer = refused_if (not (answer == sheet_length s.cohort)) SheetLength

-- the triangle of the entries known on a day, valued at a day
abbrev pub queried : State → (known valued : Day) → List ℤ
queried s known valued = triangle_sheet s.cohort (Some valued) (known_on known s.book.entries)

-- what a query answers, and what its answer sheet then holds: the triangle, or what it held before
abbrev pub Answered : State → (known valued : Day) → Result (Unit {0}) QueryFault → (before after : List ℤ) → Type 0
Answered s known valued (Ok _) before after = (query_checked s (length before) ≡ Ok tt) × (after ≡ queried s known valued)
Answered s known valued (Err (Refused fault)) before after = (query_checked s (length before) ≡ Err fault) × (after ≡ before)
Answered s known valued (Err (OutOfMemory _)) before after = (query_checked s (length before) ≡ Ok tt) × (after ≡ before)
