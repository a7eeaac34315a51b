-- Tables of a list of entries: what a query reads at once, in place of a walk for each claim and movement. Assumes nothing.
use Rattle.std.specs.Prelude.{◌≡◌, ℕ, ◌+◌, Bool, false, cond, List, map, drop, Some, None, vec_items, Option}
use Rattle.std.specs.List.{range_with_len}
use Rattle.values.specs.declared.claim_days.ClaimDays.{ClaimDays}
use Rattle.register.specs.Entries.{claim_days_in, entry_in, is_entry_of, named_by, replaces}
use Rattle.register.specs.declared.entry.Entry.{Entry}
use Rattle.cube.specs.declared.tables.Tables.{Tables}

abbrev pub replaced_by : List Entry → ℕ → Option Entry → Bool
replaced_by later n None = false
replaced_by later n (Some e) = replaces later e.claim n

-- a later entry of its claim corrects or voids the entry numbered n
abbrev pub is_replaced_in : List Entry → ℕ → Bool
is_replaced_in es n = replaced_by (drop n es) n (entry_in es n)

-- the number, if there is an entry with it, of the claim
abbrev pub if_of_claim : List Entry → (claim : ℕ) → Option ℕ → Option ℕ
if_of_claim es claim None = None
if_of_claim es claim (Some n) = cond (is_entry_of es claim n) (Some n) None

-- the number of the entry of the list that the next entry e replaces: the one that e names, if it is of the same claim
abbrev pub replaced_next : List Entry → Entry → Option ℕ
replaced_next es e = if_of_claim es e.claim (named_by e)

-- the claim days in force for each claim up to the bound
abbrev pub days_by_claim : (bound : ℕ) → List Entry → List (Option ClaimDays)
days_by_claim bound es = map (claim_days_in es) (range_with_len 0 (bound + 1))

-- whether it is replaced, for each entry up to a number
abbrev pub replaced_by_number : (count : ℕ) → List Entry → List Bool
replaced_by_number count es = map (is_replaced_in es) (range_with_len 0 (count + 1))

-- the tables are those of the list, for claims up to a bound
pub record Tabled (bound : ℕ) (es : List Entry) (tables : Tables) : Type 0 where
  pub days : vec_items tables.claim_days ≡ days_by_claim bound es
  pub replaced : vec_items tables.replaced ≡ replaced_by_number tables.count es
