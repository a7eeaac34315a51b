-- Entries, and what a list of them says of its claims and movements. Entries are numbered from 1 in the order of the list.
-- Assumes nothing.
use Rattle.std.specs.Prelude.{ℕ, zero, suc, ◌+◌, ◌-◌, Bool, true, false, cond, not, ◌&&◌, List, [], ◌∷◌, drop, Some, None, Option, ◌==◌}
use Rattle.std.specs.List.{slice_get}
use Rattle.values.specs.declared.claim_days.ClaimDays.{ClaimDays}
use Rattle.register.specs.declared.entry.Content.{Content}
use Rattle.register.specs.declared.entry.Content.TheVariants.{Opening, Payment, ReserveChange, Correction, Void, Redating}
use Rattle.register.specs.declared.entry.Entry.{Entry}
use Rattle.register.specs.declared.kind.MovementKind.{MovementKind}
use Rattle.register.specs.declared.kind.MovementKind.TheVariants.{Paid, Reserved}

abbrev pub opens : Content → Bool
opens (Opening o) = true
opens (Payment p) = false
opens (ReserveChange r) = false
opens (Correction k) = false
opens (Void v) = false
opens (Redating d) = false

-- the entry opens a claim
abbrev pub is_opening : Entry → Bool
is_opening e = opens e.content

abbrev pub moves : Content → Bool
moves (Opening o) = false
moves (Payment p) = true
moves (ReserveChange r) = true
moves (Correction k) = true
moves (Void v) = false
moves (Redating d) = false

-- the entry is a movement: a payment, a reserve change or a correction
abbrev pub is_movement : Entry → Bool
is_movement e = moves e.content

abbrev named_in : Content → Option ℕ
named_in (Opening o) = None
named_in (Payment p) = None
named_in (ReserveChange r) = None
named_in (Correction k) = Some k.names
named_in (Void v) = Some v.names
named_in (Redating d) = None

-- the number of the entry that a correction or a void names
abbrev pub named_by : Entry → Option ℕ
named_by e = named_in e.content

-- the entry with a number, none for 0 and past the end
abbrev pub entry_in : List Entry → ℕ → Option Entry
entry_in es n = cond (n == 0) None (slice_get es (n - 1))

abbrev pub of_claim : ℕ → Option Entry → Bool
of_claim claim None = false
of_claim claim (Some e) = e.claim == claim

-- there is an entry with the number, and it is of the claim
abbrev pub is_entry_of : List Entry → (claim n : ℕ) → Bool
is_entry_of es claim n = of_claim claim (entry_in es n)

-- how many claims the list opens
abbrev pub openings_in : List Entry → ℕ
openings_in [] = 0
openings_in (e ∷ es) = cond (is_opening e) 1 0 + openings_in es

abbrev pub is_number : Option ℕ → ℕ → Bool
is_number None n = false
is_number (Some m) n = m == n

-- some entry of the claim in the list corrects or voids the entry numbered n
abbrev pub replaces : List Entry → (claim n : ℕ) → Bool
replaces [] claim n = false
replaces (e ∷ es) claim n = cond (e.claim == claim && is_number (named_by e) n) true (replaces es claim n)

abbrev pub stands_before : List Entry → ℕ → Option Entry → Bool
stands_before later n None = false
stands_before later n (Some e) = is_movement e && not (replaces later e.claim n)

-- the entry numbered n is a movement that stands: no later entry corrects or voids it. One that does belongs to its claim.
abbrev pub stands_in : List Entry → ℕ → Bool
stands_in es n = stands_before (drop n es) n (entry_in es n)

-- what a movement counts as, by its content: a correction as the movement that it names
abbrev pub kind_of : Content → (ℕ → Option MovementKind) → Option MovementKind
kind_of (Opening o) named = None
kind_of (Payment p) named = Some Paid
kind_of (ReserveChange r) named = Some Reserved
kind_of (Correction k) named = named k.names
kind_of (Void v) named = None
kind_of (Redating d) named = None

abbrev pub kind_from : Option Entry → (ℕ → Option MovementKind) → Option MovementKind
kind_from None named = None
kind_from (Some e) named = kind_of e.content named

abbrev pub kind_within : List Entry → (steps n : ℕ) → Option MovementKind
kind_within es zero n = None
kind_within es (suc steps) n = kind_from (entry_in es n) (kind_within es steps)

-- whether the entry numbered n counts as a payment or as a reserve change; none where it is no movement. Corrections name
-- earlier entries, so n steps lead to the movement that the chain of them began with.
abbrev pub kind_in : List Entry → ℕ → Option MovementKind
kind_in es n = kind_within es n n

abbrev pub days_after : Option ClaimDays → Content → Option ClaimDays
days_after before (Opening o) = Some o
days_after before (Payment p) = before
days_after before (ReserveChange r) = before
days_after before (Correction k) = before
days_after before (Void v) = before
days_after before (Redating d) = Some d

abbrev pub days_from : Option ClaimDays → List Entry → ℕ → Option ClaimDays
days_from before [] claim = before
days_from before (e ∷ es) claim = days_from (cond (e.claim == claim) (days_after before e.content) before) es claim

-- the claim days in force: those of the claim's last opening or redating in the list
abbrev pub claim_days_in : List Entry → ℕ → Option ClaimDays
claim_days_in es claim = days_from None es claim
