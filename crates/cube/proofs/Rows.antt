-- The promise about every row of calls. Assumes nothing.
use Rattle.std.proofs.Common.{◌≡◌, ℕ, ◌+◌, ◌<◌, ◌≤◌, true, cond, ◌⊎◌, List, [], ◌∷◌, ◌++◌, length, get_or, ℤ, pos, ◌+ℤ◌, neg_ℤ, ◌≤ℤ◌, Some, None, Ok, Err, filter, Option, Result, sym, refl, ap, ◌∙◌, subst, inl, inr, arith}
use lib.IntN.{+ℤ_idr}
use Rattle.std.proofs.lemmas.List.FromFn.{length-map-range_with_len}
use Rattle.std.proofs.lemmas.List.{get_or_past, length_push, length-take}
use Rattle.std.proofs.lemmas.Int.{ints}
use Rattle.std.proofs.lemmas.Bool.{cases_Bool, cases_lt, cond-true, cond-false, leb-true}
use Rattle.std.specs.Result.{result_ok}
use Rattle.values.specs.Cohorts as cohorts
use Rattle.values.specs.declared.day.Day.{Day}
use Rattle.register.specs.Entries.{entry_in, stands_in}
use Rattle.register.specs.declared.entry.Entry.{Entry}
use Rattle.cube.specs.declared.fault.CallFault.{CallFault}
use Rattle.cube.specs.declared.ticket.Ticket.{Ticket}
use Rattle.cube.specs.Brings.{brings}
use Rattle.cube.specs.Calls.{Call, Ledger, after, brought_in, entry_of, next}
use Rattle.cube.specs.Model.{State, after_draft, after_drop, after_post, draft_ticket, drop_answer, move_entry, open_entry, post_entry, redate_entry, sheet_after, state_after, void_entry, with_draft}
use Rattle.cube.specs.Promises.{Booked, Lawful, New, history, most_cents, noted, stood_on}
use Rattle.cube.specs.Queries.{booked_by, is_booked_by, known_on, queried}
use Rattle.cube.specs.Sheets.{added_all, sheet_length}
use Rattle.cube.specs.Triangles.{sum_at, triangle, triangle_sheet}
use Rattle.cube.proofs.Bounds.{unwrapped, within}
use Rattle.cube.proofs.Cells.{added_cells, cell_at, cells_same, cleared_cells}
use Rattle.cube.proofs.InTime.{Timely, in_time_lem, timely_more}
use Rattle.cube.proofs.Joins.{Joins, draft_stands, move_joins, open_joins, post_joins, redate_joins, void_joins}
use Rattle.cube.proofs.Known.{Ordered, known_all, known_more, known_old, ordered_more}
use Rattle.cube.proofs.Law.{law, entry_within}
use Rattle.cube.proofs.OneMore.{entry_new}
use Rattle.cube.proofs.Reached.{Reached, reached_more, reached_new}

-- what holds of every ledger that calls have made of a new one, m being its cohort
pub record Kept (m : cohorts.Meaning) (l : Ledger) : Type 0 where
  pub same : l.state.cohort ≡ m
  pub few : l.state.book.capacity ≤ 65536
  pub room : length l.state.book.entries ≤ l.state.book.capacity
  pub reached : Reached l.state.book.entries l.state.draft
  pub timely : Timely l.state.book.entries
  pub ordered : Ordered l.state.book.entries
  pub known : (day : Day) → known_on day l.state.book.entries ≡ filter (is_booked_by day) l.state.book.entries
  pub sheet : l.sheet ≡ triangle_sheet m None l.state.book.entries

-- the ledger with an entry booked, and with another draft note
abbrev booked : Ledger → Entry → Option ℕ → Ledger
booked l e draft = record { state = with_draft (state_after l.state (Ok e)) draft; sheet = sheet_after l.state (Ok e) l.sheet }

abbrev noting : Ledger → Option ℕ → Ledger
noting l draft = record { state = with_draft l.state draft; sheet = l.sheet }

-- a call either books an entry that joins the list, or leaves list and sheet
pub record Books (l : Ledger) (call : Call) : Type 0 where
  pub entry : Entry
  pub draft : Option ℕ
  pub is : entry_of l.state call ≡ Some entry
  pub joins : Joins l.state entry draft
  pub to : next l call ≡ booked l entry draft

pub record Leaves (l : Ledger) (call : Call) : Type 0 where
  pub draft : Option ℕ
  pub is : entry_of l.state call ≡ None
  pub stands : (n : ℕ) → draft ≡ Some n → stands_in l.state.book.entries n ≡ true
  pub to : next l call ≡ noting l draft

module _ (l : Ledger) (reached : Reached l.state.book.entries l.state.draft) where
  abbrev s : State
  s = l.state

  -- a call that books on leaves the draft note
  books_on : (call : Call) (verdict : Result Entry CallFault) → entry_of s call ≡ result_ok verdict → next l call ≡ record { state = state_after s verdict; sheet = sheet_after s verdict l.sheet } → ((e : Entry) → verdict ≡ Ok e → Joins s e s.draft) → Books l call ⊎ Leaves l call
  books_on call (Ok e) is to joins = inl (record { entry = e; draft = s.draft; is = is; joins = joins e refl; to = to })
  books_on call (Err fault) is to joins = inr (record { draft = s.draft; is = is; stands = reached.drafted; to = to })

  posts : (call : Call) (verdict : Result Entry CallFault) → entry_of s call ≡ result_ok verdict → next l call ≡ record { state = after_post s verdict; sheet = sheet_after s verdict l.sheet } → ((e : Entry) → verdict ≡ Ok e → Joins s e None) → Books l call ⊎ Leaves l call
  posts call (Ok e) is to joins = inl (record { entry = e; draft = None; is = is; joins = joins e refl; to = to })
  posts call (Err fault) is to joins = inr (record { draft = s.draft; is = is; stands = reached.drafted; to = to })

  drafts : (call : Call) (answer : Result Ticket CallFault) → entry_of s call ≡ None → next l call ≡ record { state = after_draft s answer; sheet = l.sheet } → ((ticket : Ticket) → answer ≡ Ok ticket → stands_in s.book.entries ticket.entry ≡ true) → Books l call ⊎ Leaves l call
  drafts call (Ok ticket) is to stands =
      inr (record { draft = Some ticket.entry; is = is; stands = λ n same. let at : ticket.entry ≡ n = cc in ap (stands_in s.book.entries) (sym at) ∙ stands ticket refl; to = to })
  drafts call (Err fault) is to stands = inr (record { draft = s.draft; is = is; stands = reached.drafted; to = to })

  drops : (call : Call) (answer : Result (Unit {0}) CallFault) → entry_of s call ≡ None → next l call ≡ record { state = after_drop s answer; sheet = l.sheet } → Books l call ⊎ Leaves l call
  drops call (Ok _) is to = inr (record { draft = None; is = is; stands = λ n same. absurd (let z : ◌≡◌ {A = ℕ} 0 1 = cc in omega arith); to = to })
  drops call (Err fault) is to = inr (record { draft = s.draft; is = is; stands = reached.drafted; to = to })

  pub outcome : (call : Call) → Books l call ⊎ Leaves l call
  outcome (Call.Open sheet booked days) = books_on (Call.Open sheet booked days) (open_entry s sheet booked days) refl refl (open_joins s reached sheet booked days)
  outcome (Call.Move sheet kind booked claim terms) =
      books_on (Call.Move sheet kind booked claim terms) (move_entry s sheet kind booked claim terms) refl refl
      (move_joins s reached sheet booked kind claim terms)
  outcome (Call.Void sheet booked entry) = books_on (Call.Void sheet booked entry) (void_entry s sheet booked entry) refl refl (void_joins s reached sheet booked entry)
  outcome (Call.Redate sheet booked claim days) = books_on (Call.Redate sheet booked claim days) (redate_entry s sheet booked claim days) refl refl (redate_joins s reached sheet booked claim days)
  outcome (Call.Draft entry) = drafts (Call.Draft entry) (draft_ticket s entry) refl refl (draft_stands s entry)
  outcome (Call.Post sheet ticket booked terms) =
      posts (Call.Post sheet ticket booked terms) (post_entry s sheet ticket booked terms) refl refl (post_joins s reached sheet booked ticket terms)
  outcome (Call.Drop ticket) = drops (Call.Drop ticket) (drop_answer s ticket) refl refl
  outcome (Call.Query answer known valued) = inr (record { draft = s.draft; is = refl; stands = reached.drafted; to = refl })

module _ (m : cohorts.Meaning) where
  -- one entry more on the sheet
  sheet_more : (l : Ledger) → Kept m l → (e : Entry) (draft : Option ℕ) → Joins l.state e draft → sheet_after l.state (Ok e) l.sheet ≡ triangle_sheet m None (l.state.book.entries ++ (e ∷ []))
  sheet_more l kept e draft joins =
      let es : List Entry = l.state.book.entries in
      ap (λ sheet. added_all sheet (brings l.state.cohort None es e)) kept.sheet
      ∙ ap (λ q. added_all (triangle_sheet m None es) (brings q None es e)) kept.same
      ∙ added_cells (sheet_length m) (λ k. sum_at k (triangle m None es)) (brings m None es e)
      ∙ cells_same (sheet_length m) _ _ (λ k. sym (law m None k es kept.reached.back e joins.follows))

  booked_kept : (l : Ledger) → Kept m l → (e : Entry) (draft : Option ℕ) → Joins l.state e draft → Kept m (booked l e draft)
  booked_kept l kept e draft joins =
      let es : List Entry = l.state.book.entries in
      let ordered = ordered_more es e kept.ordered joins.later in
      record {
        same = kept.same;
        few = kept.few;
        room = omega (arith, length_push es e, kept.room, joins.room);
        reached = reached_more es l.state.draft draft kept.reached e joins.follows joins.next joins.kept;
        timely = timely_more es e kept.timely joins.timely;
        ordered = ordered;
        known = λ day. known_more day es e ordered (kept.known day);
        sheet = sheet_more l kept e draft joins;
      }

  noting_kept : (l : Ledger) → Kept m l → (draft : Option ℕ) → ((n : ℕ) → draft ≡ Some n → stands_in l.state.book.entries n ≡ true) → Kept m (noting l draft)
  noting_kept l kept draft stands = record {
    same = kept.same;
    few = kept.few;
    room = kept.room;
    reached = record { back = kept.reached.back; opened = kept.reached.opened; dated = kept.reached.dated; drafted = stands };
    timely = kept.timely;
    ordered = kept.ordered;
    known = kept.known;
    sheet = kept.sheet;
  }

  pub kept_next : (l : Ledger) (call : Call) → Kept m l → Kept m (next l call)
  kept_next l call kept =
      elim (outcome l kept.reached call) [
        | inl b ↦ subst (Kept m) (sym b.to) (booked_kept l kept b.entry b.draft b.joins)
        | inr c ↦ subst (Kept m) (sym c.to) (noting_kept l kept c.draft c.stands)
      ]

  pub kept_after : (l : Ledger) (calls : List Call) → Kept m l → Kept m (after l calls)
  kept_after l [] kept = kept
  kept_after l (call ∷ calls) kept = kept_after (next l call) calls (kept_next l call kept)

  -- the sheet that a query as at each day gives
  abbrev Stood : Ledger → (Day → List ℤ) → Type 0
  Stood l stood = (day : Day) → triangle_sheet m (Some day) (known_on day l.state.book.entries) ≡ stood day

  -- the same with one call more
  abbrev stood_next : Ledger → Call → (Day → List ℤ) → Day → List ℤ
  stood_next l call stood day = stood_on day (stood day) (noted (entry_of l.state call) (next l call).sheet [])

  stood_booked : (l : Ledger) (e : Entry) (draft : Option ℕ) (stood : Day → List ℤ) → Kept m (booked l e draft) → Stood l stood → (day : Day) → triangle_sheet m (Some day) (known_on day (l.state.book.entries ++ (e ∷ []))) ≡ cond (is_booked_by day e) (booked l e draft).sheet (stood day)
  stood_booked l e draft stood kept before day =
      let es : List Entry = l.state.book.entries in
      let more : List Entry = es ++ (e ∷ []) in
      elim (cases_Bool (is_booked_by day e)) [
        | inl known ↦
            let here = leb-true e.booked.number day.number known in
            let all : (n : ℕ) (x : Entry) → entry_in more n ≡ Some x → x.booked.number ≤ day.number =
            λ n x at. omega (arith, kept.ordered n (length es + 1) x e (omega (arith, length_push es e, (entry_within more n x at).1)) at (entry_new es e), here) in
            ap (triangle_sheet m (Some day)) (known_all day es e kept.ordered known)
            ∙ cells_same (sheet_length m) _ _ (λ k. ap (sum_at k) (in_time_lem m day more kept.timely all))
            ∙ sym kept.sheet
            ∙ sym (cond-true (is_booked_by day e) (booked l e draft).sheet (stood day) known)
        | inr unknown ↦ ap (triangle_sheet m (Some day)) (known_old day es e unknown) ∙ before day ∙ sym (cond-false (is_booked_by day e) (booked l e draft).sheet (stood day) unknown)
      ]

  stood_next_lem : (l : Ledger) (call : Call) → Kept m l → (stood : Day → List ℤ) → Stood l stood → Stood (next l call) (stood_next l call stood)
  stood_next_lem l call kept stood before day =
      elim (outcome l kept.reached call) [
        | inl b ↦
            ap (λ l'. triangle_sheet m (Some day) (known_on day l'.state.book.entries)) b.to
            ∙ stood_booked l b.entry b.draft stood (booked_kept l kept b.entry b.draft b.joins) before day
            ∙ ap (λ (l' : Ledger). cond (is_booked_by day b.entry) l'.sheet (stood day)) (sym b.to)
            ∙ ap (λ o. stood_on day (stood day) (noted o (next l call).sheet [])) (sym b.is)
        | inr c ↦
            ap (λ l'. triangle_sheet m (Some day) (known_on day l'.state.book.entries)) c.to
            ∙ before day
            ∙ ap (λ o. stood_on day (stood day) (noted o (next l call).sheet [])) (sym c.is)
      ]

  stood_noted : (day : Day) (o : Option Entry) (sheet before : List ℤ) (later : List Booked) → stood_on day (stood_on day before (noted o sheet [])) later ≡ stood_on day before (noted o sheet later)
  stood_noted day None sheet before later = refl
  stood_noted day (Some e) sheet before later = refl

  stood_after : (l : Ledger) (calls : List Call) → Kept m l → (stood : Day → List ℤ) → Stood l stood → (day : Day) → triangle_sheet m (Some day) (known_on day (after l calls).state.book.entries) ≡ stood_on day (stood day) (history l calls)
  stood_after l [] kept stood before day = before day
  stood_after l (call ∷ calls) kept stood before day =
      stood_after (next l call) calls (kept_next l call kept) (stood_next l call stood) (stood_next_lem l call kept stood before) day
      ∙ stood_noted day (entry_of l.state call) (next l call).sheet (stood day) (history (next l call) calls)

  -- the cells of a ledger
  long_kept : (l : Ledger) → Kept m l → length l.sheet ≡ sheet_length m
  long_kept l kept = ap length kept.sheet ∙ length-map-range_with_len _ 0 (sheet_length m)

  cell_kept : (l : Ledger) → Kept m l → (k : ℕ) → k < sheet_length m → get_or l.sheet k (pos 0) ≡ sum_at k (triangle m None l.state.book.entries)
  cell_kept l kept k h =
      ap (λ sheet. get_or sheet k (pos 0)) kept.sheet
      ∙ cell_at (sheet_length m) (λ j. sum_at j (triangle m None l.state.book.entries)) k h
      ∙ unwrapped m None k l.state.book.entries (omega (arith, kept.room, kept.few))

  -- and of what a query of it gives
  drawn_kept : (l : Ledger) → Kept m l → (known valued : Day) (k : ℕ) → k < sheet_length m → get_or (queried l.state known valued) k (pos 0) ≡ sum_at k (triangle m (Some valued) (known_on known l.state.book.entries))
  drawn_kept l kept known valued k h =
      let part : List Entry = known_on known l.state.book.entries in
      ap (λ q. get_or (triangle_sheet q (Some valued) part) k (pos 0)) kept.same
      ∙ cell_at (sheet_length m) (λ j. sum_at j (triangle m (Some valued) part)) k h
      ∙ unwrapped m (Some valued) k part (omega (arith, length-take (booked_by known l.state.book.entries) l.state.book.entries, kept.room, kept.few))

  bound_kept : (l : Ledger) → Kept m l → (k : ℕ) → (neg_ℤ (pos most_cents) ≤ℤ get_or l.sheet k (pos 0)) × (get_or l.sheet k (pos 0) ≤ℤ pos most_cents)
  bound_kept l kept k =
      elim (cases_lt k (sheet_length m)) [
        | inl here ↦ subst (λ z. (neg_ℤ (pos most_cents) ≤ℤ z) × (z ≤ℤ pos most_cents)) (sym (cell_kept l kept k here)) (within m None k l.state.book.entries (omega (arith, kept.room, kept.few)))
        | inr past ↦ subst (λ z. (neg_ℤ (pos most_cents) ≤ℤ z) × (z ≤ℤ pos most_cents)) (sym (get_or_past l.sheet k (pos 0) (omega (arith, long_kept l kept)))) (omega (arith, ints), omega (arith, ints))
      ]

  differs_kept : (l : Ledger) → Kept m l → (call : Call) (k : ℕ) → k < sheet_length m → get_or (next l call).sheet k (pos 0) ≡ get_or l.sheet k (pos 0) +ℤ sum_at k (brought_in l.state (entry_of l.state call))
  differs_kept l kept call k h =
      elim (outcome l kept.reached call) [
        | inl b ↦
            let es : List Entry = l.state.book.entries in
            ap (λ (l' : Ledger). get_or l'.sheet k (pos 0)) b.to
            ∙ cell_kept (booked l b.entry b.draft) (booked_kept l kept b.entry b.draft b.joins) k h
            ∙ law m None k es kept.reached.back b.entry b.joins.follows
            ∙ ap (λ z. z +ℤ sum_at k (brings m None es b.entry)) (sym (cell_kept l kept k h))
            ∙ ap (λ q. get_or l.sheet k (pos 0) +ℤ sum_at k (brings q None es b.entry)) (sym kept.same)
            ∙ ap (λ o. get_or l.sheet k (pos 0) +ℤ sum_at k (brought_in l.state o)) (sym b.is)
        | inr c ↦
            ap (λ (l' : Ledger). get_or l'.sheet k (pos 0)) c.to
            ∙ sym (+ℤ_idr (get_or l.sheet k (pos 0)))
            ∙ ap (λ o. get_or l.sheet k (pos 0) +ℤ sum_at k (brought_in l.state o)) (sym c.is)
      ]

-- a new cube
module _ (l : Ledger) (new : New l) where
  abbrev m : cohorts.Meaning
  m = l.state.cohort

  cleared : (valued : Option Day) → triangle_sheet m valued [] ≡ l.sheet
  cleared valued = sym (cleared_cells (sheet_length m)) ∙ sym new.cleared

  none : (n : ℕ) (x : Entry) → entry_in l.state.book.entries n ≡ Some x → ⊥
  none n x at = let within = entry_within [] n x (ap (λ es. entry_in es n) (sym new.empty) ∙ at) in omega (arith, within.0, within.1)

  new_kept : Kept m l
  new_kept = record {
    same = refl;
    few = new.few;
    room = omega (arith, ap length new.empty);
    reached = subst (λ es. Reached es l.state.draft) (sym new.empty) (subst (Reached []) (sym new.undrafted) reached_new);
    timely = λ n x at. absurd (none n x at);
    ordered = λ i j x y less at_x at_y. absurd (none i x at_x);
    known = λ day. subst (λ es. known_on day es ≡ filter (is_booked_by day) es) (sym new.empty) refl;
    sheet = sym (cleared None) ∙ ap (triangle_sheet m None) (sym new.empty);
  }

  pub promised : Lawful l
  promised calls =
      let kept = kept_after m l calls new_kept in
      record {
        long = long_kept m (after l calls) kept;
        cells = cell_kept m (after l calls) kept;
        low = λ k. (bound_kept m (after l calls) kept k).0;
        high = λ k. (bound_kept m (after l calls) kept k).1;
        differs = differs_kept m (after l calls) kept;
        drawn = drawn_kept m (after l calls) kept;
        known = kept.known;
        recalls = λ day.
            ap (λ q. triangle_sheet q (Some day) (known_on day (after l calls).state.book.entries)) kept.same
            ∙ stood_after m l calls new_kept (λ _. l.sheet) (λ d. ap (λ es. triangle_sheet m (Some d) (known_on d es)) new.empty ∙ cleared (Some d)) day;
      }
