-- Requests that name a ticket of the drawer. Assumes nothing.
use Rattle.std.proofs.Common.{◌≡◌, ℕ, zero, suc, ◌+◌, ◌<◌, ◌≤◌, true, false, cond, List, [], ◌∷◌, ◌++◌, length, get_or, drop, ℤ, is_ok, Some, Ok, Err, Result, sym, refl, ap, ◌∙◌, arith}
use Rattle.std.proofs.lemmas.List.{append-nil, drop_all, take_all}
use Rattle.std.proofs.lemmas.Option.{slice_get-get_or, slice_get_past}
use Rattle.std.proofs.lemmas.Bool.{cond-true, cond-false}
use Rattle.std.specs.List.{insert, remove, slice_get}
use Rattle.std.specs.Option.{option_map}
use Rattle.values.specs.declared.day.Day.{Day}
use Rattle.register.specs.declared.entry.Terms.{Terms}
use Rattle.register.specs.declared.entry.Entry.{Entry}
use Rattle.cube.specs.declared.fault.CallFault.{CallFault}
use Rattle.cube.specs.declared.request.Answer.{Answer}
use Rattle.cube.specs.declared.request.Answer.TheVariants as answer
use Rattle.cube.specs.declared.request.Request.TheVariants as request
use Rattle.cube.specs.declared.ticket.Ticket.{Ticket}
use Rattle.cube.specs.Calls.{Call, next}
use Rattle.cube.specs.Model.{State, drop_answer, number_told, post_entry, post_told}
use Rattle.cube.specs.Runs.{Desk, Served, Told, answer_to, desk_next, ledger_next, spent_by, told, told_of}

-- a ticket that is taken out of its place and put back
pub put_back : (xs : List Ticket) (i : ℕ) (t : Ticket) → i < length xs → t ≡ get_or xs i t → insert (remove xs i) i t ≡ xs
put_back [] i t within is = absurd (omega arith)
put_back (x ∷ xs) zero t within is = ap (λ y. y ∷ xs) is
put_back (x ∷ xs) (suc i) t within is = ap (λ ys. x ∷ ys) (put_back xs i t (omega arith) is)

-- the ticket at a place, and none past the last
pub ticket_at : (xs : List Ticket) (i : ℕ) (t : Ticket) → i < length xs → t ≡ get_or xs i t → slice_get xs i ≡ Some t
ticket_at xs i t within is = slice_get-get_or xs i t within ∙ ap Some (sym is)

removed_past : (xs : List Ticket) (i : ℕ) → length xs ≤ i → remove xs i ≡ xs
removed_past xs i past = ap (λ ys. ys ++ drop (suc i) xs) (take_all i xs past) ∙ ap (λ ys. xs ++ ys) (drop_all (suc i) xs (omega arith)) ∙ append-nil xs

-- desks are equal where their parts are
desk_same : (a b : Desk) → a.ledger.state ≡ b.ledger.state → a.ledger.sheet ≡ b.ledger.sheet → a.drawer ≡ b.drawer → a ≡ b
desk_same a b state sheet drawer = ap (λ s. desk s a.ledger.sheet a.drawer) state ∙ ap (λ cells. desk b.ledger.state cells a.drawer) sheet ∙ ap (desk b.ledger.state b.ledger.sheet) drawer
  where
    desk : State → List ℤ → List Ticket → Desk
    desk s cells tickets = record { ledger = record { state = s; sheet = cells }; drawer = tickets }

desk_ledger : (a b : Desk) → a.ledger ≡ b.ledger → a.drawer ≡ b.drawer → a ≡ b
desk_ledger a b ledger drawer = desk_same a b (ap (λ l. l.state) ledger) (ap (λ l. l.sheet) ledger) drawer

module _ (d : Desk) (place : ℕ) where
  pub drop_none : length d.drawer ≤ place → Served d (request.Drop place) (Ok answer.NoTicket) d
  drop_none past =
      let none = slice_get_past d.drawer place past in (
        ap (λ o. answer_to d.ledger (option_map Call.Drop o)) (sym none),
        desk_ledger d (desk_next d (request.Drop place)) (ap (λ o. ledger_next d.ledger (option_map Call.Drop o)) (sym none)) (sym (removed_past d.drawer place past)),
      )

  pub drop_served : (ticket : Ticket) → slice_get d.drawer place ≡ Some ticket → (a : Answer) (end : Desk) → told a ≡ told_of (λ _. Told.Dropped) (drop_answer d.ledger.state ticket) → end.ledger ≡ next d.ledger (Call.Drop ticket) → end.drawer ≡ remove d.drawer place → Served d (request.Drop place) (Ok a) end
  drop_served ticket at a end is ledger drawer = (
    is ∙ ap (λ o. answer_to d.ledger (option_map Call.Drop o)) (sym at),
    desk_ledger end (desk_next d (request.Drop place)) (ledger ∙ ap (λ o. ledger_next d.ledger (option_map Call.Drop o)) (sym at)) drawer,
  )

  module _ (booked : Day) (terms : Terms) where
    abbrev call : Ticket → Call
    call ticket = Call.Post (length d.ledger.sheet) ticket booked terms

    abbrev verdict : Ticket → Result Entry CallFault
    verdict ticket = post_entry d.ledger.state (length d.ledger.sheet) ticket booked terms

    posted : (ticket : Ticket) → slice_get d.drawer place ≡ Some ticket → (a : Answer) (end : Desk) → told a ≡ told_of Told.Booked (number_told d.ledger.state (verdict ticket)) → end.ledger ≡ next d.ledger (call ticket) → end.drawer ≡ cond (is_ok (verdict ticket)) (remove d.drawer place) d.drawer → Served d (request.Post booked place terms) (Ok a) end
    posted ticket at a end is ledger drawer = (
      is ∙ ap (λ o. answer_to d.ledger (option_map call o)) (sym at),
      desk_ledger end (desk_next d (request.Post booked place terms)) (ledger ∙ ap (λ o. ledger_next d.ledger (option_map call o)) (sym at)) (drawer ∙ ap (λ o. spent_by d.drawer place o verdict) (sym at)),
    )

    -- what an accepted post told, and a refused one
    told_ok : (s : State) (ticket : Ticket) (v : Result Entry CallFault) (n : ℕ) → Ok n ≡ post_told s ticket v → (Told.Booked n ≡ told_of Told.Booked (number_told s v)) × (is_ok v ≡ true)
    told_ok s ticket (Ok e) n is = (let same : n ≡ length s.book.entries + 1 = cc in ap Told.Booked same, refl)
    told_ok s ticket (Err fault) n is = absurd (let z : ◌≡◌ {A = ℕ} 0 1 = cc in omega arith)

    told_err : (s : State) (ticket back : Ticket) (v : Result Entry CallFault) (fault : CallFault) → Err (back, fault) ≡ post_told s ticket v → (Told.Refused fault ≡ told_of Told.Booked (number_told s v)) × (is_ok v ≡ false) × (back ≡ ticket)
    told_err s ticket back (Ok e) fault is = absurd (let z : ◌≡◌ {A = ℕ} 0 1 = cc in omega arith)
    told_err s ticket back (Err f) fault is =
        let both : ◌≡◌ {A = Ticket × CallFault} (back, fault) (ticket, f) = cc in
        (ap (λ (p : Ticket × CallFault). Told.Refused p.1) both, refl, ap (λ (p : Ticket × CallFault). p.0) both)

    pub post_accepted : (ticket : Ticket) → slice_get d.drawer place ≡ Some ticket → (n : ℕ) (end : Desk) → Ok n ≡ post_told d.ledger.state ticket (verdict ticket) → end.ledger ≡ next d.ledger (call ticket) → end.drawer ≡ remove d.drawer place → Served d (request.Post booked place terms) (Ok (answer.Booked n)) end
    post_accepted ticket at n end is ledger drawer =
        let ok = told_ok d.ledger.state ticket (verdict ticket) n is in
        posted ticket at (answer.Booked n) end ok.0 ledger (drawer ∙ sym (cond-true _ _ _ ok.1))

    pub post_refused : (ticket back : Ticket) → slice_get d.drawer place ≡ Some ticket → place < length d.drawer → ticket ≡ get_or d.drawer place ticket → (fault : CallFault) (end : Desk) → Err (back, fault) ≡ post_told d.ledger.state ticket (verdict ticket) → end.ledger ≡ next d.ledger (call ticket) → end.drawer ≡ insert (remove d.drawer place) place back → Served d (request.Post booked place terms) (Ok (answer.Refused fault)) end
    post_refused ticket back at within was fault end is ledger drawer =
        let err = told_err d.ledger.state ticket back (verdict ticket) fault is in
        posted ticket at (answer.Refused fault) end err.0 ledger
        (drawer ∙ ap (insert (remove d.drawer place) place) err.2 ∙ put_back d.drawer place ticket within was ∙ sym (cond-false _ _ _ err.1))
