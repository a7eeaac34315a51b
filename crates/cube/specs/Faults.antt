-- The refusal number of each fault of a call. Assumes nothing.
use Rattle.std.specs.Prelude.{ℕ}
use Rattle.cube.specs.declared.fault.CallFault.{CallFault}
use Rattle.cube.specs.declared.fault.CallFault.TheVariants.{SheetLength, RegisterNotEmpty, NoRoom, BookedEarlier, RegisterFull, ClaimsUsedUp, DaysOutOfOrder, AfterBooking, NoSuchClaim, BeforeReport, NoSuchEntry, NotAMovement, NotStanding, UnderDraft, NotTheDraft, MovementBeforeReport}

abbrev pub call_fault_number : CallFault → ℕ
call_fault_number SheetLength = 4
call_fault_number RegisterNotEmpty = 5
call_fault_number NoRoom = 6
call_fault_number BookedEarlier = 7
call_fault_number RegisterFull = 8
call_fault_number ClaimsUsedUp = 9
call_fault_number DaysOutOfOrder = 10
call_fault_number AfterBooking = 11
call_fault_number NoSuchClaim = 12
call_fault_number BeforeReport = 13
call_fault_number NoSuchEntry = 14
call_fault_number NotAMovement = 15
call_fault_number NotStanding = 16
call_fault_number UnderDraft = 17
call_fault_number NotTheDraft = 18
call_fault_number MovementBeforeReport = 19
