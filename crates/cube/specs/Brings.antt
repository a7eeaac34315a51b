-- What an entry brings to the sheet, by the list of entries before it. Assumes nothing.
use Rattle.std.specs.Prelude.{ℕ, ◌+◌, Bool, true, cond, List, [], ◌∷◌, ◌++◌, ℤ, pos, neg_ℤ, Some, None, Option, ◌==◌, nat_le}
use Rattle.values.specs.Cohorts.{Meaning}
use Rattle.values.specs.declared.claim_days.ClaimDays.{ClaimDays}
use Rattle.values.specs.declared.day.Day.{Day}
use Rattle.register.specs.Entries.{claim_days_in, entry_in, kind_in, stands_in, is_opening}
use Rattle.register.specs.Terms.{terms_of_correction}
use Rattle.register.specs.declared.entry.Content.{Content}
use Rattle.register.specs.declared.entry.Content.TheVariants as content
use Rattle.register.specs.declared.entry.Correction.{Correction}
use Rattle.register.specs.declared.entry.Entry.{Entry}
use Rattle.register.specs.declared.kind.MovementKind.{MovementKind}
use Rattle.register.specs.declared.kind.MovementKind.TheVariants as kind
use Rattle.cube.specs.declared.terms.Direction.{Direction}
use Rattle.cube.specs.declared.terms.Direction.TheVariants.{Added, TakenOff}
use Rattle.register.specs.declared.entry.Terms.{Terms}
use Rattle.cube.specs.Sheets.{Share, movement_shares, claim_shares}

-- on or before the value day; without one every day is
abbrev pub in_time : Option Day → Day → Bool
in_time None day = true
in_time (Some valued) day = nat_le day.number valued.number

-- the shares of something that happened on a day, none after the value day
abbrev pub timed : Option Day → Day → List Share → List Share
timed valued day shares = cond (in_time valued day) shares []

-- an amount that is added, or taken off
abbrev pub directed : Direction → ℤ → ℤ
directed Added amount = amount
directed TakenOff amount = neg_ℤ amount

-- the effective day and the amount of a movement
abbrev pub terms_of : Content → Option Terms
terms_of (content.Opening o) = None
terms_of (content.Payment p) = Some p
terms_of (content.ReserveChange r) = Some r
terms_of (content.Correction k) = Some (terms_of_correction k)
terms_of (content.Void v) = None
terms_of (content.Redating d) = None

abbrev pub terms_at : Option Entry → Option Terms
terms_at None = None
terms_at (Some e) = terms_of e.content

-- a sheet's cohort, the value day, and the claim days under which movements are placed
module _ (m : Meaning) (valued : Option Day) where
  abbrev pub terms_shares : ClaimDays → Direction → Option MovementKind → Option Terms → List Share
  terms_shares days sign None terms = []
  terms_shares days sign (Some kind) None = []
  terms_shares days sign (Some kind) (Some terms) = timed valued terms.effective (movement_shares m kind days terms.effective (directed sign terms.amount.cents))

  -- the movement numbered n
  abbrev pub movement_at : List Entry → ClaimDays → Direction → ℕ → List Share
  movement_at es days sign n = terms_shares days sign (kind_in es n) (terms_at (entry_in es n))

  -- the count of a claim
  abbrev pub count_under : ClaimDays → Direction → List Share
  count_under days sign = timed valued days.report (claim_shares m days (directed sign (pos 1)))

  -- the entry e numbered n: an opened claim, or a movement that stands
  abbrev pub standing_part : List Entry → ClaimDays → Direction → ℕ → Entry → List Share
  standing_part es days sign n e = cond (is_opening e) (count_under days sign) (cond (stands_in es n) (movement_at es days sign n) [])

  -- the claim's count and standing movements, over the entries from the one numbered n + 1 on
  abbrev pub claim_part_from : List Entry → (claim : ℕ) → ClaimDays → Direction → ℕ → List Entry → List Share
  claim_part_from es claim days sign n [] = []
  claim_part_from es claim days sign n (e ∷ rest) = cond (e.claim == claim) (standing_part es days sign (n + 1) e) [] ++ claim_part_from es claim days sign (n + 1) rest

  abbrev pub claim_part : List Entry → (claim : ℕ) → ClaimDays → Direction → List Share
  claim_part es claim days sign = claim_part_from es claim days sign 0 es

  -- a correction takes the movement that it names off, and adds its own terms as one of the same kind
  abbrev pub correction_shares : List Entry → ClaimDays → Correction → List Share
  correction_shares es days k = movement_at es days TakenOff k.names ++ terms_shares days Added (kind_in es k.names) (Some (terms_of_correction k))

  -- a redating takes the claim's count and standing movements off under the old claim days and adds them under the new
  abbrev pub redating_shares : List Entry → (claim : ℕ) → (old new : ClaimDays) → List Share
  redating_shares es claim old new = claim_part es claim old TakenOff ++ claim_part es claim new Added

  -- under the claim days in force, if there are any
  abbrev pub under_days : Option ClaimDays → (ClaimDays → List Share) → List Share
  under_days None shares = []
  under_days (Some days) shares = shares days

  -- An opening brings its claim's count, a payment or a reserve change its amount, and a void takes the movement that it names
  -- off again.
  abbrev pub brought_by : List Entry → (claim : ℕ) → Option ClaimDays → Content → List Share
  brought_by es claim old (content.Opening o) = count_under o Added
  brought_by es claim old (content.Payment p) = under_days old (λ days. terms_shares days Added (Some kind.Paid) (Some p))
  brought_by es claim old (content.ReserveChange r) = under_days old (λ days. terms_shares days Added (Some kind.Reserved) (Some r))
  brought_by es claim old (content.Correction k) = under_days old (λ days. correction_shares es days k)
  brought_by es claim old (content.Void v) = under_days old (λ days. movement_at es days TakenOff v.names)
  brought_by es claim old (content.Redating d) = under_days old (λ days. redating_shares es claim days d)

  -- what the entry brings after the list
  abbrev pub brings : List Entry → Entry → List Share
  brings es e = brought_by es e.claim (claim_days_in es e.claim) e.content
