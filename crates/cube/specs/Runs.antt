-- A row of requests, served one after the other over a cube, its sheet and a drawer of tickets. Assumes nothing.
use Rattle.std.specs.Prelude.{◌≡◌, ℕ, ◌<◌, ◌≤◌, cond, List, [], ◌∷◌, ◌++◌, map, length, take, ℤ, is_ok, Some, None, Ok, Err, vec_items, Option, Result}
use Rattle.std.specs.List.{remove, slice_get}
use Rattle.std.specs.Option.{option_map, option_to_list}
use Rattle.std.specs.Result.{result_ok}
use Rattle.std.specs.declared.alloc.AllocError.{AllocError}
use Rattle.values.specs.declared.day.Day.{Day}
use Rattle.register.specs.declared.entry.Entry.{Entry}
use Rattle.cube.specs.declared.fault.CallFault.{CallFault}
use Rattle.cube.specs.declared.request.Answer.{Answer}
use Rattle.cube.specs.declared.request.Answer.TheVariants as answer
use Rattle.cube.specs.declared.request.Request.{Request}
use Rattle.cube.specs.declared.request.Request.TheVariants as request
use Rattle.cube.specs.declared.ticket.Ticket.{Ticket}
use Rattle.cube.specs.Calls.{Call, Ledger, after, next, state_next}
use Rattle.cube.specs.Model.{State, draft_ticket, drop_answer, move_entry, number_told, open_entry, open_told, post_entry, redate_entry, void_entry}
use Rattle.cube.specs.Promises.{New, Promised, history, stood_on}
use Rattle.cube.specs.Queries.{queried, query_checked}
use Rattle.cube.specs.Sheets.{sheet_length}

-- what a call answers, as one kind of value for all calls
pub data Told : Type 0 where
  Opened : (entry claim : ℕ) → Told
  Booked : (entry : ℕ) → Told
  Drafted : Told
  Dropped : Told
  Drawn : (cells : List ℤ) → Told
  Refused : CallFault → Told
  NoTicket : Told

-- what an answer tells
abbrev pub told : Answer → Told
told (answer.Opened o) = Told.Opened o.entry o.claim
told (answer.Booked n) = Told.Booked n
told answer.Drafted = Told.Drafted
told answer.Dropped = Told.Dropped
told (answer.Drawn cells) = Told.Drawn (vec_items cells)
told (answer.Refused fault) = Told.Refused fault
told answer.NoTicket = Told.NoTicket

-- the value told of what was accepted, or the refusal
abbrev pub told_of : {X : Type 0} → (X → Told) → Result X CallFault → Told
told_of tell (Ok x) = tell x
told_of tell (Err fault) = Told.Refused fault

-- the answer of the model to a call
abbrev pub answer_of : State → Call → Told
answer_of s (Call.Open sheet booked days) = told_of (λ o. Told.Opened o.entry o.claim) (open_told s (open_entry s sheet booked days))
answer_of s (Call.Move sheet kind booked claim terms) = told_of Told.Booked (number_told s (move_entry s sheet kind booked claim terms))
answer_of s (Call.Void sheet booked entry) = told_of Told.Booked (number_told s (void_entry s sheet booked entry))
answer_of s (Call.Redate sheet booked claim days) = told_of Told.Booked (number_told s (redate_entry s sheet booked claim days))
answer_of s (Call.Draft entry) = told_of (λ _. Told.Drafted) (draft_ticket s entry)
answer_of s (Call.Post sheet ticket booked terms) = told_of Told.Booked (number_told s (post_entry s sheet ticket booked terms))
answer_of s (Call.Drop ticket) = told_of (λ _. Told.Dropped) (drop_answer s ticket)
answer_of s (Call.Query answer known valued) = told_of (λ _. Told.Drawn (queried s known valued)) (query_checked s answer)

-- a ledger with a drawer of tickets
pub record Desk : Type 0 where
  pub ledger : Ledger
  pub drawer : List Ticket

-- the call that a request makes; none if it names a ticket that the drawer does not have
abbrev pub call_of : Desk → Request → Option Call
call_of d (request.Open booked days) = Some (Call.Open (length d.ledger.sheet) booked days)
call_of d (request.Movement kind booked claim terms) = Some (Call.Move (length d.ledger.sheet) kind booked claim terms)
call_of d (request.Void booked number) = Some (Call.Void (length d.ledger.sheet) booked number)
call_of d (request.Redate booked claim days) = Some (Call.Redate (length d.ledger.sheet) booked claim days)
call_of d (request.Draft number) = Some (Call.Draft number)
call_of d (request.Post booked place terms) = option_map (λ ticket. Call.Post (length d.ledger.sheet) ticket booked terms) (slice_get d.drawer place)
call_of d (request.Drop place) = option_map Call.Drop (slice_get d.drawer place)
call_of d (request.Query known valued) = Some (Call.Query (sheet_length d.ledger.state.cohort) known valued)

-- a post spends its ticket if it is accepted
abbrev pub spent_by : List Ticket → (place : ℕ) → Option Ticket → (Ticket → Result Entry CallFault) → List Ticket
spent_by drawer place None verdict = drawer
spent_by drawer place (Some ticket) verdict = cond (is_ok (verdict ticket)) (remove drawer place) drawer

-- the drawer after a request: a draft puts its ticket at the end, a drop takes its own out
abbrev pub drawer_next : Desk → Request → List Ticket
drawer_next d (request.Open booked days) = d.drawer
drawer_next d (request.Movement kind booked claim terms) = d.drawer
drawer_next d (request.Void booked number) = d.drawer
drawer_next d (request.Redate booked claim days) = d.drawer
drawer_next d (request.Draft number) = d.drawer ++ option_to_list (result_ok (draft_ticket d.ledger.state number))
drawer_next d (request.Post booked place terms) =
    spent_by d.drawer place (slice_get d.drawer place) (λ ticket. post_entry d.ledger.state (length d.ledger.sheet) ticket booked terms)
drawer_next d (request.Drop place) = remove d.drawer place
drawer_next d (request.Query known valued) = d.drawer

-- the answer to a call, or that there was no ticket
abbrev pub answer_to : Ledger → Option Call → Told
answer_to l None = Told.NoTicket
answer_to l (Some call) = answer_of l.state call

abbrev pub ledger_next : Ledger → Option Call → Ledger
ledger_next l None = l
ledger_next l (Some call) = next l call

-- what is answered to one request, and the desk after it
abbrev pub reply_to : Desk → Request → Told
reply_to d r = answer_to d.ledger (call_of d r)

abbrev pub desk_next : Desk → Request → Desk
desk_next d r = record { ledger = ledger_next d.ledger (call_of d r); drawer = drawer_next d r }

-- a row of requests: the desk after it, the answers, and the calls that were made
abbrev pub desk_after : Desk → List Request → Desk
desk_after d [] = d
desk_after d (r ∷ rs) = desk_after (desk_next d r) rs

abbrev pub replies_to : Desk → List Request → List Told
replies_to d [] = []
replies_to d (r ∷ rs) = reply_to d r ∷ replies_to (desk_next d r) rs

abbrev pub calls_of : Desk → List Request → List Call
calls_of d [] = []
calls_of d (r ∷ rs) = option_to_list (call_of d r) ++ calls_of (desk_next d r) rs

-- every ticket of a drawer dropped, the last first
abbrev pub dropped_all : State → List Ticket → State
dropped_all s [] = s
dropped_all s (ticket ∷ tickets) = state_next (dropped_all s tickets) (Call.Drop ticket)

-- what serving one request does; where memory ran out, nothing
abbrev pub Served : Desk → Request → Result Answer AllocError → Desk → Type 0
Served before r (Ok a) end = (told a ≡ reply_to before r) × (end ≡ desk_next before r)
Served before r (Err _) end = end ≡ before

-- What a run does: the first requests of the row were served, so many as there are answers.
pub record Ran (before : Desk) (row : List Request) (answers : List Answer) (end : Desk) : Type 0 where
  -- the answers, and the desk at the end, are the model's
  pub replies : map told answers ≡ replies_to before (take (length answers) row)
  pub desk : end ≡ desk_after before (take (length answers) row)
  -- From a new cube, or from any ledger that earlier calls made of a new one: after each request the ledger is that after all
  -- the calls so far, and what is promised of every row of calls holds of it.
  pub ledgers : (new : Ledger) (earlier : List Call) → after new earlier ≡ before.ledger → (j : ℕ) → j ≤ length answers → (desk_after before (take j row)).ledger ≡ after new (earlier ++ calls_of before (take j row))
  pub law : (new : Ledger) (earlier : List Call) → New new → after new earlier ≡ before.ledger → (j : ℕ) → j ≤ length answers → Promised new (earlier ++ calls_of before (take j row))
  -- so a query as at a day is answered with the sheet that stood after the last entry so far that was booked on or before it
  pub recalls : (new : Ledger) (earlier : List Call) → New new → after new earlier ≡ before.ledger → (j : ℕ) (day : Day) → j < length answers → slice_get row j ≡ Some (request.Query day day) → slice_get (map told answers) j ≡ Some (Told.Drawn (stood_on day new.sheet (history new (earlier ++ calls_of before (take j row)))))
