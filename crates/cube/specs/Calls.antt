-- Rows of calls: what each call does to the state and the sheet that the call before it left. Assumes nothing.
use Rattle.std.specs.Prelude.{ℕ, List, [], ◌∷◌, ℤ, Some, None, Option}
use Rattle.std.specs.Result.{result_ok}
use Rattle.values.specs.declared.claim_days.ClaimDays.{ClaimDays}
use Rattle.values.specs.declared.day.Day.{Day}
use Rattle.register.specs.declared.entry.Terms.{Terms}
use Rattle.register.specs.declared.entry.Entry.{Entry}
use Rattle.register.specs.declared.kind.MovementKind.{MovementKind}
use Rattle.cube.specs.declared.ticket.Ticket.{Ticket}
use Rattle.cube.specs.Brings.{brings}
use Rattle.cube.specs.Model.{State, after_draft, after_drop, after_post, draft_ticket, drop_answer, move_entry, open_entry, post_entry, redate_entry, sheet_after, state_after, void_entry}
use Rattle.cube.specs.Sheets.{Share}

-- one call on a started cube, with its arguments; of a sheet only the length
pub data Call : Type 0 where
  Open : (sheet : ℕ) (booked : Day) (days : ClaimDays) → Call
  Move : (sheet : ℕ) (kind : MovementKind) (booked : Day) (claim : ℕ) (terms : Terms) → Call
  Void : (sheet : ℕ) (booked : Day) (entry : ℕ) → Call
  Redate : (sheet : ℕ) (booked : Day) (claim : ℕ) (days : ClaimDays) → Call
  Draft : (entry : ℕ) → Call
  Post : (sheet : ℕ) (ticket : Ticket) (booked : Day) (terms : Terms) → Call
  Drop : (ticket : Ticket) → Call
  Query : (answer : ℕ) (known valued : Day) → Call

-- the entry that the call books, if it books one
abbrev pub entry_of : State → Call → Option Entry
entry_of s (Call.Open sheet booked days) = result_ok (open_entry s sheet booked days)
entry_of s (Call.Move sheet kind booked claim terms) = result_ok (move_entry s sheet kind booked claim terms)
entry_of s (Call.Void sheet booked entry) = result_ok (void_entry s sheet booked entry)
entry_of s (Call.Redate sheet booked claim days) = result_ok (redate_entry s sheet booked claim days)
entry_of s (Call.Draft entry) = None
entry_of s (Call.Post sheet ticket booked terms) = result_ok (post_entry s sheet ticket booked terms)
entry_of s (Call.Drop ticket) = None
entry_of s (Call.Query answer known valued) = None

-- what the call brings to the sheet: what its entry brings, and nothing if it books none
abbrev pub brought_in : State → Option Entry → List Share
brought_in s None = []
brought_in s (Some e) = brings s.cohort None s.book.entries e

-- the state after the call
abbrev pub state_next : State → Call → State
state_next s (Call.Open sheet booked days) = state_after s (open_entry s sheet booked days)
state_next s (Call.Move sheet kind booked claim terms) = state_after s (move_entry s sheet kind booked claim terms)
state_next s (Call.Void sheet booked entry) = state_after s (void_entry s sheet booked entry)
state_next s (Call.Redate sheet booked claim days) = state_after s (redate_entry s sheet booked claim days)
state_next s (Call.Draft entry) = after_draft s (draft_ticket s entry)
state_next s (Call.Post sheet ticket booked terms) = after_post s (post_entry s sheet ticket booked terms)
state_next s (Call.Drop ticket) = after_drop s (drop_answer s ticket)
state_next s (Call.Query answer known valued) = s

-- the sheet after the call
abbrev pub sheet_next : State → Call → List ℤ → List ℤ
sheet_next s (Call.Open sheet booked days) = sheet_after s (open_entry s sheet booked days)
sheet_next s (Call.Move sheet kind booked claim terms) = sheet_after s (move_entry s sheet kind booked claim terms)
sheet_next s (Call.Void sheet booked entry) = sheet_after s (void_entry s sheet booked entry)
sheet_next s (Call.Redate sheet booked claim days) = sheet_after s (redate_entry s sheet booked claim days)
sheet_next s (Call.Draft entry) = λ cells. cells
sheet_next s (Call.Post sheet ticket booked terms) = sheet_after s (post_entry s sheet ticket booked terms)
sheet_next s (Call.Drop ticket) = λ cells. cells
sheet_next s (Call.Query answer known valued) = λ cells. cells

-- a cube's state and the sheet that its calls are lent
pub record Ledger : Type 0 where
  pub state : State
  pub sheet : List ℤ

-- the ledger after a call, if nothing but the call alters it
abbrev pub next : Ledger → Call → Ledger
next l call = record { state = state_next l.state call; sheet = sheet_next l.state call l.sheet }

-- the ledger after a row of calls
abbrev pub after : Ledger → List Call → Ledger
after l [] = l
after l (call ∷ calls) = after (next l call) calls
