-- What a call's checks show of the entry that it books. Assumes nothing.
use Rattle.std.proofs.Common.{◌≡◌, ℕ, ◌+◌, ◌≤◌, Bool, true, false, not, eqb, leb, List, length, replicate, ℤ, pos, is_some, Some, None, Ok, Err, Option, Result, sym, refl, ap, ◌∙◌, subst, arith}
use Rattle.std.proofs.lemmas.List.{nil_from_length}
use Rattle.std.proofs.lemmas.Bool.{and_parts, eqb-false, eqb-true, false≢true, ltb-false, ne_eqb, not-false}
use Rattle.values.specs.Making.{and_then}
use Rattle.values.specs.declared.claim_days.ClaimDays.{ClaimDays}
use Rattle.values.specs.declared.day.Day.{Day}
use Rattle.register.specs.Entries.{claim_days_in, entry_in, is_movement, is_number, is_opening, named_by, openings_in, stands_in}
use Rattle.register.specs.declared.entry.Terms.{Terms}
use Rattle.register.specs.declared.entry.Entry.{Entry}
use Rattle.register.specs.declared.kind.MovementKind.{MovementKind}
use Rattle.register.specs.declared.kind.MovementKind.TheVariants as kind
use Rattle.cube.specs.declared.fault.CallFault.{CallFault}
use Rattle.cube.specs.declared.fault.CallFault.TheVariants.{AfterBooking, BeforeReport, DaysOutOfOrder, MovementBeforeReport, UnderDraft, SheetLength, BookedEarlier, RegisterFull, RegisterNotEmpty}
use Rattle.cube.specs.declared.ticket.Ticket.{Ticket}
use Rattle.cube.specs.Model.{State, after_start, booked_after, booking_checked, days_checked, draft_ticket, effective_checked, is_after, is_open_draft, move_entry, moved_before_from, movement_content, on_draft, open_entry, or_fault, post_entry, redate_entry, refused_if, standing_movement, start_answer, void_entry}
use Rattle.cube.specs.Promises.{New}
use Rattle.cube.specs.Sheets.{sheet_length}
use Rattle.values.specs.Making.{in_order}
use Rattle.cube.proofs.InTime.{days_by}
use Rattle.cube.proofs.Law.{Follows}
use Rattle.cube.proofs.Reached.{Reached}

-- a chain of checks that passed
pub passed : {X Y : Type 0} (r : Result X CallFault) (f : X → Result Y CallFault) (y : Y) → and_then r f ≡ Ok y → (x : X) × (r ≡ Ok x) × (f x ≡ Ok y)
passed (Ok x) f y is = (x, refl, is)
passed (Err fault) f y is = absurd (let z : ◌≡◌ {A = ℕ} 0 1 = cc in omega arith)

-- a check that passed
pub held : (b : Bool) (fault : CallFault) (x : Unit {0}) → refused_if b fault ≡ Ok x → b ≡ false
held true fault x is = absurd (let z : ◌≡◌ {A = ℕ} 0 1 = cc in omega arith)
held false fault x is = refl

pub there : {X : Type 0} (o : Option X) (fault : CallFault) (x : X) → or_fault o fault ≡ Ok x → o ≡ Some x
there None fault x is = absurd (let z : ◌≡◌ {A = ℕ} 0 1 = cc in omega arith)
there (Some y) fault x is = cc

on_draft_lem : (o : Option ℕ) (n : ℕ) → on_draft o n ≡ true → o ≡ Some n
on_draft_lem None n h = absurd (false≢true h)
on_draft_lem (Some m) n h = ap Some (eqb-true m n h)

-- the entry can join the list, with the draft note as it then is
pub record Joins (s : State) (e : Entry) (draft : Option ℕ) : Type 0 where
  pub room : length s.book.entries ≡ s.book.capacity → ⊥
  pub follows : Follows s.book.entries e.claim e.content
  -- a new claim has the next number
  pub next : is_opening e ≡ true → e.claim ≡ openings_in s.book.entries + 1
  -- a draft that stays open is of a movement that the entry does not replace
  pub kept : (n : ℕ) → draft ≡ Some n → (s.draft ≡ Some n) × (is_number (named_by e) n ≡ false)
  -- its days are on or before its booking day, which is not before the last
  pub timely : days_by e.content e.booked
  pub later : booked_after (entry_in s.book.entries (length s.book.entries)) e.booked ≡ false

-- the movement that a chain of checks found
pub standing_found : (es : List Entry) (n : ℕ) (x : Entry) → standing_movement es n ≡ Ok x → (entry_in es n ≡ Some x) × (stands_in es n ≡ true)
standing_found es n x is =
    let a = passed (or_fault (entry_in es n) _) _ x is in
    let b = passed (refused_if (not (is_movement a.0)) _) _ x a.2 in
    let c = passed (refused_if (not (stands_in es n)) _) _ x b.2 in
    let same : a.0 ≡ x = let both = c.2 in cc in
    (there (entry_in es n) _ a.0 a.1 ∙ ap Some same, not-false (stands_in es n) (held (not (stands_in es n)) _ c.0 c.1))

-- the days of checked claim days and of a checked movement
days_held : (days : ClaimDays) (booked : Day) (x : Unit {0}) → days_checked days booked ≡ Ok x → days.report.number ≤ booked.number
days_held days booked x is =
    let a = passed (refused_if (not (in_order days)) DaysOutOfOrder) _ x is in
    ltb-false booked.number days.report.number (held (is_after days.report booked) AfterBooking x a.2)

effect_held : (days : ClaimDays) (effective booked : Day) (x : Unit {0}) → effective_checked days effective booked ≡ Ok x → effective.number ≤ booked.number
effect_held days effective booked x is =
    let a = passed (refused_if (is_after days.report effective) BeforeReport) _ x is in
    ltb-false booked.number effective.number (held (is_after effective booked) AfterBooking x a.2)

module _ (s : State) (reached : Reached s.book.entries s.draft) (sheet : ℕ) (booked : Day) where
  abbrev es : List Entry
  es = s.book.entries

  booking_held : (x : Unit {0}) → booking_checked s sheet booked ≡ Ok x → (booked_after (entry_in es (length es)) booked ≡ false) × (length es ≡ s.book.capacity → ⊥)
  booking_held x is =
      let a = passed (refused_if (not (eqb sheet (sheet_length s.cohort))) SheetLength) _ x is in
      let b = passed (refused_if (booked_after (entry_in es (length es)) booked) BookedEarlier) _ x a.2 in
      (held (booked_after (entry_in es (length es)) booked) BookedEarlier b.0 b.1, eqb-false (length es) s.book.capacity (held (eqb (length es) s.book.capacity) RegisterFull x b.2))

  -- the entry that a chain of checks ends with
  ended : (draft : Option ℕ) (x y : Entry) → ◌≡◌ {A = Result Entry CallFault} (Ok x) (Ok y) → Joins s x draft → Joins s y draft
  ended draft x y is joins = let same : x ≡ y = cc in subst (λ e. Joins s e draft) same joins

  pub open_joins : (days : ClaimDays) (e : Entry) → open_entry s sheet booked days ≡ Ok e → Joins s e s.draft
  open_joins days e is =
      let a = passed (booking_checked s sheet booked) _ e is in
      let b = passed (refused_if (leb s.book.bound (openings_in es)) _) _ e a.2 in
      let c = passed (days_checked days booked) _ e b.2 in
      let first = booking_held a.0 a.1 in
      ended s.draft _ e c.2 (record {
        room = first.1;
        follows = λ n x at same. omega (arith, reached.opened n x at);
        next = λ _. refl;
        kept = λ n is. (is, refl);
        timely = days_held days booked c.0 c.1;
        later = first.0;
      })

  pub move_joins : (k : MovementKind) (claim : ℕ) (terms : Terms) (e : Entry) → move_entry s sheet k booked claim terms ≡ Ok e → Joins s e s.draft
  move_joins k claim terms e is =
      let a = passed (booking_checked s sheet booked) _ e is in
      let b = passed (or_fault (claim_days_in es claim) _) _ e a.2 in
      let c = passed (effective_checked b.0 terms.effective booked) _ e b.2 in
      ended s.draft _ e c.2 (moved k b.0 (there (claim_days_in es claim) _ b.0 b.1) (booking_held a.0 a.1) (effect_held b.0 terms.effective booked c.0 c.1))
    where
      moved : (k : MovementKind) (days : ClaimDays) → claim_days_in es claim ≡ Some days → (booked_after (entry_in es (length es)) booked ≡ false) × (length es ≡ s.book.capacity → ⊥) → terms.effective.number ≤ booked.number → Joins s (record { booked = booked; claim = claim; content = movement_content k terms }) s.draft
      moved kind.Paid days is first early = record { room = first.1; follows = (days, is); next = λ no. absurd (false≢true no); kept = λ n is. (is, refl); timely = early; later = first.0 }
      moved kind.Reserved days is first early = record { room = first.1; follows = (days, is); next = λ no. absurd (false≢true no); kept = λ n is. (is, refl); timely = early; later = first.0 }

  pub void_joins : (n : ℕ) (e : Entry) → void_entry s sheet booked n ≡ Ok e → Joins s e s.draft
  void_joins n e is =
      let a = passed (booking_checked s sheet booked) _ e is in
      let b = passed (standing_movement es n) _ e a.2 in
      let c = passed (refused_if (on_draft s.draft n) _) _ e b.2 in
      let found = standing_found es n b.0 b.1 in
      let days = reached.dated n b.0 found.0 in
      let first = booking_held a.0 a.1 in
      let free = held (on_draft s.draft n) _ c.0 c.1 in
      ended s.draft _ e c.2 (record {
        room = first.1;
        follows = (days.0, b.0, days.1, found.0, refl, found.1);
        next = λ no. absurd (false≢true no);
        kept = λ d is. (is, ne_eqb n d (λ same. eqb-false d n (sym (ap (λ o. on_draft o n) is) ∙ free) (sym same)));
        timely = tt;
        later = first.0;
      })

  pub redate_joins : (claim : ℕ) (days : ClaimDays) (e : Entry) → redate_entry s sheet booked claim days ≡ Ok e → Joins s e s.draft
  redate_joins claim days e is =
      let a = passed (booking_checked s sheet booked) _ e is in
      let b = passed (or_fault (claim_days_in es claim) _) _ e a.2 in
      let c = passed (days_checked days booked) _ e b.2 in
      let d = passed (refused_if (moved_before_from es claim days.report 0 es) MovementBeforeReport) _ e c.2 in
      let first = booking_held a.0 a.1 in
      ended s.draft _ e d.2 (record {
        room = first.1;
        follows = (b.0, there (claim_days_in es claim) _ b.0 b.1);
        next = λ no. absurd (false≢true no);
        kept = λ n is. (is, refl);
        timely = days_held days booked c.0 c.1;
        later = first.0;
      })

  pub post_joins : (ticket : Ticket) (terms : Terms) (e : Entry) → post_entry s sheet ticket booked terms ≡ Ok e → Joins s e None
  post_joins ticket terms e is =
      let a = passed (booking_checked s sheet booked) _ e is in
      let b = passed (refused_if (not (is_open_draft s ticket)) _) _ e a.2 in
      let c = passed (or_fault (entry_in es ticket.entry) _) _ e b.2 in
      let d = passed (or_fault (claim_days_in es c.0.claim) _) _ e c.2 in
      let f = passed (effective_checked d.0 terms.effective booked) _ e d.2 in
      let first = booking_held a.0 a.1 in
      let ours = not-false (is_open_draft s ticket) (held (not (is_open_draft s ticket)) _ b.0 b.1) in
      let drafted = on_draft_lem s.draft ticket.entry (and_parts (eqb ticket.mark s.mark) _ ours).1 in
      ended None _ e f.2 (record {
        room = first.1;
        follows = (d.0, c.0, there (claim_days_in es c.0.claim) _ d.0 d.1, there (entry_in es ticket.entry) _ c.0 c.1, refl, reached.drafted ticket.entry drafted);
        next = λ no. absurd (false≢true no);
        kept = λ n is. absurd (let z : ◌≡◌ {A = ℕ} 0 1 = cc in omega arith);
        timely = effect_held d.0 terms.effective booked f.0 f.1;
        later = first.0;
      })

  -- so each accepted entry follows the list
  abbrev Fits : Entry → Type 0
  Fits e = Follows es e.claim e.content

  pub open_follows : (days : ClaimDays) (e : Entry) → open_entry s sheet booked days ≡ Ok e → Fits e
  open_follows days e is = (open_joins days e is).follows

  pub move_follows : (k : MovementKind) (claim : ℕ) (terms : Terms) (e : Entry) → move_entry s sheet k booked claim terms ≡ Ok e → Fits e
  move_follows k claim terms e is = (move_joins k claim terms e is).follows

  pub void_follows : (n : ℕ) (e : Entry) → void_entry s sheet booked n ≡ Ok e → Fits e
  void_follows n e is = (void_joins n e is).follows

  pub redate_follows : (claim : ℕ) (days : ClaimDays) (e : Entry) → redate_entry s sheet booked claim days ≡ Ok e → Fits e
  redate_follows claim days e is = (redate_joins claim days e is).follows

  pub post_follows : (ticket : Ticket) (terms : Terms) (e : Entry) → post_entry s sheet ticket booked terms ≡ Ok e → Fits e
  post_follows ticket terms e is = (post_joins ticket terms e is).follows

-- the movement that is drafted stands
pub draft_stands : (s : State) (n : ℕ) (ticket : Ticket) → draft_ticket s n ≡ Ok ticket → stands_in s.book.entries ticket.entry ≡ true
draft_stands s n ticket is =
    let a = passed (standing_movement s.book.entries n) _ ticket is in
    let b = passed (refused_if (is_some s.draft) UnderDraft) _ ticket a.2 in
    let at : n ≡ ticket.entry = let made = b.2 in cc in
    ap (stands_in s.book.entries) (sym at) ∙ (standing_found s.book.entries n a.0 a.1).1

-- a start that is accepted leaves a new cube
pub start_new : (s : State) (mark : ℕ) (before sheet : List ℤ) → start_answer s (length before) ≡ Ok tt → sheet ≡ replicate (length before) (pos 0) → s.book.capacity ≤ 65536 → New (record { state = after_start s mark (Ok tt); sheet = sheet })
start_new s mark before sheet is cleared few =
    let a = passed (refused_if (not (eqb (length before) (sheet_length s.cohort))) SheetLength) _ tt is in
    let b = passed (refused_if (not (eqb (length s.book.entries) 0)) RegisterNotEmpty) _ tt a.2 in
    let fits = eqb-true _ _ (not-false _ (held (not (eqb (length before) (sheet_length s.cohort))) SheetLength a.0 a.1)) in
    let none = eqb-true _ _ (not-false _ (held (not (eqb (length s.book.entries) 0)) RegisterNotEmpty b.0 b.1)) in
    record { empty = nil_from_length s.book.entries none; undrafted = refl; cleared = cleared ∙ ap (λ n. replicate n (pos 0)) fits; few = few }
