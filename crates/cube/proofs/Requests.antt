-- Rows of requests. Assumes nothing.
use Rattle.std.proofs.Common.{◌≡◌, ℕ, zero, suc, ◌+◌, ◌<◌, not, List, [], ◌∷◌, ◌++◌, map, length, get_or, take, Some, None, Option, sym, refl, ap, ◌∙◌, arith}
use Rattle.std.proofs.lemmas.List.{map_push, take_more}
use Rattle.std.proofs.lemmas.Bool.{eq-eqb}
use Rattle.std.specs.Option.{option_to_list}
use Rattle.std.specs.List.{slice_get}
use Rattle.values.specs.declared.day.Day.{Day}
use Rattle.cube.specs.declared.fault.CallFault.TheVariants.{SheetLength}
use Rattle.cube.specs.declared.request.Answer.{Answer}
use Rattle.cube.specs.declared.request.Request.{Request}
use Rattle.cube.specs.declared.request.Request.TheVariants as request
use Rattle.cube.specs.declared.ticket.Ticket.{Ticket}
use Rattle.cube.specs.Calls.{Call, Ledger, after, next, state_next}
use Rattle.cube.specs.Model.{State, refused_if}
use Rattle.cube.specs.Promises.{New, history, stood_on}
use Rattle.cube.specs.Queries.{queried}
use Rattle.cube.specs.Runs.{Desk, Ran, Told, call_of, calls_of, desk_after, desk_next, dropped_all, ledger_next, replies_to, reply_to, told, told_of}
use Rattle.cube.specs.Sheets.{sheet_length}
use Rattle.cube.proofs.Rows.{promised}

-- one request more
desk_push : (d : Desk) (rs : List Request) (r : Request) → desk_after d (rs ++ (r ∷ [])) ≡ desk_next (desk_after d rs) r
desk_push d [] r = refl
desk_push d (x ∷ rs) r = desk_push (desk_next d x) rs r

replies_push : (d : Desk) (rs : List Request) (r : Request) → replies_to d (rs ++ (r ∷ [])) ≡ replies_to d rs ++ (reply_to (desk_after d rs) r ∷ [])
replies_push d [] r = refl
replies_push d (x ∷ rs) r = ap (λ ts. reply_to d x ∷ ts) (replies_push (desk_next d x) rs r)

-- the same, at an index of the row
pub desk_more : (d : Desk) (row : List Request) (i : ℕ) (r : Request) → i < length row → r ≡ get_or row i r → (end : Desk) → end ≡ desk_next (desk_after d (take i row)) r → end ≡ desk_after d (take (i + 1) row)
desk_more d row i r within is end to = to ∙ sym (desk_push d (take i row) r) ∙ ap (λ x. desk_after d (take i row ++ (x ∷ []))) is ∙ ap (desk_after d) (sym (take_more row i r within))

pub replies_more : (d : Desk) (row : List Request) (i : ℕ) (r : Request) → i < length row → r ≡ get_or row i r → (answers : List Answer) (a : Answer) → map told answers ≡ replies_to d (take i row) → told a ≡ reply_to (desk_after d (take i row)) r → map told (answers ++ (a ∷ [])) ≡ replies_to d (take (i + 1) row)
replies_more d row i r within is answers a before here =
    map_push told answers a ∙ ap (λ ts. ts ++ (told a ∷ [])) before ∙ ap (λ t. replies_to d (take i row) ++ (t ∷ [])) here ∙ sym (replies_push d (take i row) r)
    ∙ ap (λ x. replies_to d (take i row ++ (x ∷ []))) is ∙ ap (replies_to d) (sym (take_more row i r within))

after_append : (l : Ledger) (xs ys : List Call) → after l (xs ++ ys) ≡ after (after l xs) ys
after_append l [] ys = refl
after_append l (x ∷ xs) ys = after_append (next l x) xs ys

after_one : (l : Ledger) (o : Option Call) → ledger_next l o ≡ after l (option_to_list o)
after_one l None = refl
after_one l (Some call) = refl

-- the ledger of the desk is that after the calls that were made
ledger_after : (d : Desk) (rs : List Request) → (desk_after d rs).ledger ≡ after d.ledger (calls_of d rs)
ledger_after d [] = refl
ledger_after d (r ∷ rs) =
    ledger_after (desk_next d r) rs ∙ ap (λ l. after l (calls_of (desk_next d r) rs)) (after_one d.ledger (call_of d r)) ∙ sym (after_append d.ledger (option_to_list (call_of d r)) (calls_of (desk_next d r) rs))

-- the reply to the request at an index of the row
reply_at : (d : Desk) (row : List Request) (n j : ℕ) (r : Request) → j < n → slice_get row j ≡ Some r → slice_get (replies_to d (take n row)) j ≡ Some (reply_to (desk_after d (take j row)) r)
reply_at d [] n j r less is = absurd (let z : ◌≡◌ {A = ℕ} 0 1 = cc in omega arith)
reply_at d (x ∷ row) zero j r less is = absurd (omega arith)
reply_at d (x ∷ row) (suc n) zero r less is = let same : x ≡ r = cc in ap (λ y. Some (reply_to d y)) same
reply_at d (x ∷ row) (suc n) (suc j) r less is = reply_at (desk_next d x) row n j r (omega arith) is

-- the reply to a query: the sheet is of the right length
query_reply : (d : Desk) (known valued : Day) → reply_to d (request.Query known valued) ≡ Told.Drawn (queried d.ledger.state known valued)
query_reply d known valued =
    let n = sheet_length d.ledger.state.cohort in
    ap (λ b. told_of (λ _. Told.Drawn (queried d.ledger.state known valued)) (refused_if (not b) SheetLength)) (eq-eqb n n refl)

-- what a run does
module _ (before : Desk) (row : List Request) (new : Ledger) (earlier : List Call) (is : after new earlier ≡ before.ledger) where
  ledger_at : (j : ℕ) → (desk_after before (take j row)).ledger ≡ after new (earlier ++ calls_of before (take j row))
  ledger_at j = ledger_after before (take j row) ∙ ap (λ l. after l (calls_of before (take j row))) (sym is) ∙ sym (after_append new earlier (calls_of before (take j row)))

  recalled : New new → (j : ℕ) (day : Day) → reply_to (desk_after before (take j row)) (request.Query day day) ≡ Told.Drawn (stood_on day new.sheet (history new (earlier ++ calls_of before (take j row))))
  recalled fresh j day =
      query_reply (desk_after before (take j row)) day day
      ∙ ap (λ (l : Ledger). Told.Drawn (queried l.state day day)) (ledger_at j)
      ∙ ap Told.Drawn ((promised new fresh (earlier ++ calls_of before (take j row))).recalls day)

pub ran : (before : Desk) (row : List Request) (answers : List Answer) (end : Desk) (n : ℕ) → length answers ≡ n → map told answers ≡ replies_to before (take n row) → end ≡ desk_after before (take n row) → Ran before row answers end
ran before row answers end n count replies desk = record {
  replies = replies ∙ ap (λ k. replies_to before (take k row)) (sym count);
  desk = desk ∙ ap (λ k. desk_after before (take k row)) (sym count);
  ledgers = λ new earlier is j h. ledger_at before row new earlier is j;
  law = λ new earlier fresh is j h. promised new fresh (earlier ++ calls_of before (take j row));
  recalls = λ new earlier fresh is j day h asked.
      ap (λ ts. slice_get ts j) replies ∙ reply_at before row n j (request.Query day day) (omega (arith, h, count)) asked ∙ ap Some (recalled before row new earlier is fresh j day);
}

-- the last ticket is dropped first
pub dropped_last : (s : State) (tickets : List Ticket) (t : Ticket) → dropped_all s (tickets ++ (t ∷ [])) ≡ dropped_all (state_next s (Call.Drop t)) tickets
dropped_last s [] t = refl
dropped_last s (x ∷ tickets) t = ap (λ q. state_next q (Call.Drop x)) (dropped_last s tickets t)
