-- The model of a cube: a list of entries and a draft note, and what each call answers by these alone. Assumes nothing.
use Rattle.std.specs.Prelude.{ℕ, ◌+◌, Bool, true, false, cond, not, ◌&&◌, ◌||◌, List, [], ◌∷◌, ◌++◌, length, replicate, ℤ, pos, is_some, Some, None, Ok, Err, Option, Result, ◌==◌, nat_le, nat_lt}
use Rattle.values.specs.Cohorts as cohorts
use Rattle.values.specs.Making.{and_then, in_order}
use Rattle.values.specs.declared.claim_days.ClaimDays.{ClaimDays}
use Rattle.values.specs.declared.day.Day.{Day}
use Rattle.register.specs.Entries.{claim_days_in, entry_in, is_movement, openings_in, stands_in}
use Rattle.register.specs.Registers as registers
use Rattle.register.specs.Terms.{correction_to}
use Rattle.register.specs.declared.entry.Content.{Content}
use Rattle.register.specs.declared.entry.Content.TheVariants as content
use Rattle.register.specs.declared.entry.Entry.{Entry}
use Rattle.register.specs.declared.kind.MovementKind.{MovementKind}
use Rattle.register.specs.declared.kind.MovementKind.TheVariants as kind
use Rattle.cube.specs.declared.fault.CallFault.{CallFault}
use Rattle.cube.specs.declared.fault.CallFault.TheVariants.{SheetLength, RegisterNotEmpty, NoRoom, BookedEarlier, RegisterFull, ClaimsUsedUp, DaysOutOfOrder, AfterBooking, NoSuchClaim, BeforeReport, NoSuchEntry, NotAMovement, NotStanding, UnderDraft, NotTheDraft, MovementBeforeReport}
use Rattle.register.specs.declared.entry.Terms.{Terms}
use Rattle.cube.specs.declared.ticket.Opened.{Opened}
use Rattle.cube.specs.declared.ticket.Ticket.{Ticket}
use Rattle.cube.specs.Brings.{brings, terms_of}
use Rattle.cube.specs.Sheets.{added_all, sheet_length}

-- what a cube holds besides its sheet: the register's list, capacity and claim bound, the cohort, the mark and the draft note
pub record State : Type 0 where
  pub book : registers.Meaning
  pub cohort : cohorts.Meaning
  pub mark : ℕ
  pub draft : Option ℕ

-- one check: the fault where it holds
abbrev pub refused_if : Bool → CallFault → Result (Unit {0}) CallFault
refused_if true fault = Err fault
refused_if false fault = Ok tt

-- the first day is after the second
abbrev pub is_after : Day → Day → Bool
is_after day other = nat_lt other.number day.number

abbrev pub booked_after : Option Entry → Day → Bool
booked_after None day = false
booked_after (Some e) day = is_after e.booked day

abbrev pub on_draft : Option ℕ → ℕ → Bool
on_draft None n = false
on_draft (Some m) n = m == n

-- what there is, or the fault
abbrev pub or_fault : {X : Type 0} → Option X → CallFault → Result X CallFault
or_fault None fault = Err fault
or_fault (Some x) fault = Ok x

-- the checks of every call with a booking day, by the length of the sheet that it is lent
abbrev pub booking_checked : State → (sheet : ℕ) → Day → Result (Unit {0}) CallFault
booking_checked s sheet booked =
    and_then (refused_if (not (sheet == sheet_length s.cohort)) SheetLength) (λ _.
    and_then (refused_if (booked_after (entry_in s.book.entries (length s.book.entries)) booked) BookedEarlier) (λ _.
    refused_if (length s.book.entries == s.book.capacity) RegisterFull))

-- the checks of claim days that are booked
abbrev pub days_checked : ClaimDays → Day → Result (Unit {0}) CallFault
days_checked days booked = and_then (refused_if (not (in_order days)) DaysOutOfOrder) (λ _. refused_if (is_after days.report booked) AfterBooking)

-- the checks of a movement's effective day under its claim's days
abbrev pub effective_checked : ClaimDays → Day → Day → Result (Unit {0}) CallFault
effective_checked days effective booked = and_then (refused_if (is_after days.report effective) BeforeReport) (λ _. refused_if (is_after effective booked) AfterBooking)

-- the movement with a number, if it stands
abbrev pub standing_movement : List Entry → ℕ → Result Entry CallFault
standing_movement es n =
    and_then (or_fault (entry_in es n) NoSuchEntry) (λ e.
    and_then (refused_if (not (is_movement e)) NotAMovement) (λ _.
    and_then (refused_if (not (stands_in es n)) NotStanding) (λ _. Ok e)))

abbrev pub movement_content : MovementKind → Terms → Content
movement_content kind.Paid terms = content.Payment terms
movement_content kind.Reserved terms = content.ReserveChange terms

-- Open: the claim numbered next
abbrev pub open_entry : State → (sheet : ℕ) → Day → ClaimDays → Result Entry CallFault
open_entry s sheet booked days =
    and_then (booking_checked s sheet booked) (λ _.
    and_then (refused_if (nat_le s.book.bound (openings_in s.book.entries)) ClaimsUsedUp) (λ _.
    and_then (days_checked days booked) (λ _.
    Ok (record { booked = booked; claim = openings_in s.book.entries + 1; content = content.Opening days }))))

-- Move: a payment or a reserve change
abbrev pub move_entry : State → (sheet : ℕ) → MovementKind → Day → (claim : ℕ) → Terms → Result Entry CallFault
move_entry s sheet k booked claim terms =
    and_then (booking_checked s sheet booked) (λ _.
    and_then (or_fault (claim_days_in s.book.entries claim) NoSuchClaim) (λ days.
    and_then (effective_checked days terms.effective booked) (λ _.
    Ok (record { booked = booked; claim = claim; content = movement_content k terms }))))

-- Void: of a standing movement that is under no draft
abbrev pub void_entry : State → (sheet : ℕ) → Day → (n : ℕ) → Result Entry CallFault
void_entry s sheet booked n =
    and_then (booking_checked s sheet booked) (λ _.
    and_then (standing_movement s.book.entries n) (λ e.
    and_then (refused_if (on_draft s.draft n) UnderDraft) (λ _.
    Ok (record { booked = booked; claim = e.claim; content = content.Void (record { names = n }) }))))

-- the effective day of a movement is before a day
abbrev pub effect_before : Option Terms → Day → Bool
effect_before None day = false
effect_before (Some terms) day = is_after day terms.effective

-- the entry e numbered n is a movement that stands, with an effective day before the report day
abbrev pub earlier_movement : List Entry → Day → ℕ → Entry → Bool
earlier_movement es report n e = effect_before (terms_of e.content) report && stands_in es n

-- one of the claim's entries from the one numbered n + 1 on is such a movement
abbrev pub moved_before_from : List Entry → (claim : ℕ) → Day → ℕ → List Entry → Bool
moved_before_from es claim report n [] = false
moved_before_from es claim report n (e ∷ rest) = cond (e.claim == claim && earlier_movement es report (n + 1) e) true (moved_before_from es claim report (n + 1) rest)

-- Redate: new claim days, none of the claim's standing movements being before the new report day
abbrev pub redate_entry : State → (sheet : ℕ) → Day → (claim : ℕ) → ClaimDays → Result Entry CallFault
redate_entry s sheet booked claim days =
    and_then (booking_checked s sheet booked) (λ _.
    and_then (or_fault (claim_days_in s.book.entries claim) NoSuchClaim) (λ _.
    and_then (days_checked days booked) (λ _.
    and_then (refused_if (moved_before_from s.book.entries claim days.report 0 s.book.entries) MovementBeforeReport) (λ _.
    Ok (record { booked = booked; claim = claim; content = content.Redating days })))))

-- Draft: a ticket with the mark and the entry's number
abbrev pub draft_ticket : State → (n : ℕ) → Result Ticket CallFault
draft_ticket s n =
    and_then (standing_movement s.book.entries n) (λ _.
    and_then (refused_if (is_some s.draft) UnderDraft) (λ _. Ok (record { mark = s.mark; entry = n })))

-- the ticket is that of the open draft
abbrev pub is_open_draft : State → Ticket → Bool
is_open_draft s ticket = ticket.mark == s.mark && on_draft s.draft ticket.entry

-- Post: the correction of the entry under the draft
abbrev pub post_entry : State → (sheet : ℕ) → Ticket → Day → Terms → Result Entry CallFault
post_entry s sheet ticket booked terms =
    and_then (booking_checked s sheet booked) (λ _.
    and_then (refused_if (not (is_open_draft s ticket)) NotTheDraft) (λ _.
    and_then (or_fault (entry_in s.book.entries ticket.entry) NotTheDraft) (λ e.
    and_then (or_fault (claim_days_in s.book.entries e.claim) NoSuchClaim) (λ days.
    and_then (effective_checked days terms.effective booked) (λ _.
    Ok (record { booked = booked; claim = e.claim; content = content.Correction (correction_to ticket.entry terms) }))))))

-- Drop: closes the draft
abbrev pub drop_answer : State → Ticket → Result (Unit {0}) CallFault
drop_answer s ticket = refused_if (not (is_open_draft s ticket)) NotTheDraft

-- Start: over an empty register that takes entries and claims
abbrev pub start_answer : State → (sheet : ℕ) → Result (Unit {0}) CallFault
start_answer s sheet =
    and_then (refused_if (not (sheet == sheet_length s.cohort)) SheetLength) (λ _.
    and_then (refused_if (not (length s.book.entries == 0)) RegisterNotEmpty) (λ _.
    refused_if (s.book.capacity == 0 || s.book.bound == 0) NoRoom))

-- with another draft note
abbrev pub with_draft : State → Option ℕ → State
with_draft s draft = record { book = s.book; cohort = s.cohort; mark = s.mark; draft = draft }

abbrev pub after_draft : State → Result Ticket CallFault → State
after_draft s (Err fault) = s
after_draft s (Ok ticket) = with_draft s (Some ticket.entry)

abbrev pub after_drop : State → Result (Unit {0}) CallFault → State
after_drop s (Err fault) = s
after_drop s (Ok _) = with_draft s None

abbrev pub after_start : State → (mark : ℕ) → Result (Unit {0}) CallFault → State
after_start s mark (Err fault) = s
after_start s mark (Ok _) = record { book = s.book; cohort = s.cohort; mark = mark; draft = None }

-- a cleared sheet
abbrev pub sheet_started : Result (Unit {0}) CallFault → List ℤ → List ℤ
sheet_started (Err fault) sheet = sheet
sheet_started (Ok _) sheet = replicate (length sheet) (pos 0)

-- an accepted entry's number
abbrev pub number_told : State → Result Entry CallFault → Result ℕ CallFault
number_told s (Err fault) = Err fault
number_told s (Ok e) = Ok (length s.book.entries + 1)

-- an accepted entry joins the list, a refusal alters nothing
abbrev pub book_after : registers.Meaning → Result Entry CallFault → registers.Meaning
book_after book (Err fault) = book
book_after book (Ok e) = record { entries = book.entries ++ (e ∷ []); capacity = book.capacity; bound = book.bound }

abbrev pub state_after : State → Result Entry CallFault → State
state_after s verdict = record { book = book_after s.book verdict; cohort = s.cohort; mark = s.mark; draft = s.draft }

-- and adds what it brings to the sheet
abbrev pub sheet_after : State → Result Entry CallFault → List ℤ → List ℤ
sheet_after s (Err fault) sheet = sheet
sheet_after s (Ok e) sheet = added_all sheet (brings s.cohort None s.book.entries e)

-- opening tells the claim too
abbrev pub open_told : State → Result Entry CallFault → Result Opened CallFault
open_told s (Err fault) = Err fault
open_told s (Ok e) = Ok (record { entry = length s.book.entries + 1; claim = e.claim })

-- a refused post gives the ticket back
abbrev pub post_told : State → Ticket → Result Entry CallFault → Result ℕ (Ticket × CallFault)
post_told s ticket (Err fault) = Err (ticket, fault)
post_told s ticket (Ok e) = Ok (length s.book.entries + 1)

-- an accepted one closes the draft
abbrev pub after_post : State → Result Entry CallFault → State
after_post s (Err fault) = s
after_post s (Ok e) = with_draft (state_after s (Ok e)) None
