-- What the faults of calls are written as: bytes of text. Assumes nothing.
use Rattle.std.specs.Prelude.{ℕ, List, codes}
use Rattle.cube.specs.declared.fault.CallFault.{CallFault}
use Rattle.cube.specs.declared.fault.CallFault.TheVariants.{SheetLength, RegisterNotEmpty, NoRoom, BookedEarlier, RegisterFull, ClaimsUsedUp, DaysOutOfOrder, AfterBooking, NoSuchClaim, BeforeReport, NoSuchEntry, NotAMovement, NotStanding, UnderDraft, NotTheDraft, MovementBeforeReport}
use Rattle.cube.specs.declared.fault.QueryFault.{QueryFault}
use Rattle.cube.specs.declared.fault.QueryFault.TheVariants.{Refused, OutOfMemory}

abbrev pub call_fault_text : CallFault → List ℕ
call_fault_text SheetLength = codes "the sheet has another length"
call_fault_text RegisterNotEmpty = codes "the register has entries already"
call_fault_text NoRoom = codes "the register takes no entry or no claim"
call_fault_text BookedEarlier = codes "the last entry has a later booking day"
call_fault_text RegisterFull = codes "the register is full"
call_fault_text ClaimsUsedUp = codes "the register takes no further claim"
call_fault_text DaysOutOfOrder = codes "inception, occurrence and report are not in this order"
call_fault_text AfterBooking = codes "the day is after the booking day"
call_fault_text NoSuchClaim = codes "no such claim was opened"
call_fault_text BeforeReport = codes "the effective day is before the claim's report day"
call_fault_text NoSuchEntry = codes "there is no such entry"
call_fault_text NotAMovement = codes "the entry is no payment, reserve change or correction"
call_fault_text NotStanding = codes "the entry was corrected or voided"
call_fault_text UnderDraft = codes "a draft is open on the entry, or on another one"
call_fault_text NotTheDraft = codes "the ticket is not that of the open draft"
call_fault_text MovementBeforeReport = codes "a movement is before the new report day"

abbrev pub query_fault_text : QueryFault → List ℕ
query_fault_text (Refused fault) = call_fault_text fault
query_fault_text (OutOfMemory error) = codes "out of memory"
