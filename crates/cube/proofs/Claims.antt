-- What the entries of a claim give, one after another. Assumes nothing.
use Rattle.std.proofs.Common.{◌≡◌, ℕ, ◌+◌, true, cond, ◌&&◌, List, [], ◌∷◌, ◌++◌, flat_map, ℤ, Option, refl, ap}
use Rattle.std.proofs.lemmas.Bool.{cond-true, cond-false, eq-eqb, and_left}
use Rattle.std.specs.List.{list_any}
use Rattle.values.specs.Cohorts.{Meaning}
use Rattle.values.specs.declared.claim_days.ClaimDays.{ClaimDays}
use Rattle.values.specs.declared.day.Day.{Day}
use Rattle.register.specs.declared.entry.Entry.{Entry}
use Rattle.register.specs.Registers.{claim_entries_after}
use Rattle.register.proofs.Listing.{claim_any, claim_parts}
use Rattle.cube.specs.declared.terms.Direction.{Direction}
use Rattle.cube.specs.Brings.{claim_part, claim_part_from, standing_part}
use Rattle.cube.specs.Model.{earlier_movement, moved_before_from}
use Rattle.cube.specs.Sheets.{Share, added, added_all}

pub added_append : (sheet : List ℤ) (xs ys : List Share) → added_all sheet (xs ++ ys) ≡ added_all (added_all sheet xs) ys
added_append sheet [] ys = refl
added_append sheet (x ∷ xs) ys = added_append (added sheet x) xs ys

-- the claim's part of the sheet
pub parts_joined : (m : Meaning) (valued : Option Day) (es : List Entry) (claim : ℕ) (days : ClaimDays) (sign : Direction) → flat_map (λ x. standing_part m valued es days sign x.number x.entry) (claim_entries_after es claim 0) ≡ claim_part m valued es claim days sign
parts_joined m valued es claim days sign =
    claim_parts claim (λ x. standing_part m valued es days sign x.number x.entry) parts (λ _. refl)
    (λ n e rest is. ap (λ xs. xs ++ parts (n + 1) rest) (cond-true _ _ _ (eq-eqb e.claim claim is)))
    (λ n e rest other. ap (λ xs. xs ++ parts (n + 1) rest) (cond-false _ _ _ other))
    es 0
  where
    parts : ℕ → List Entry → List Share
    parts n rest = claim_part_from m valued es claim days sign n rest

-- whether a movement of the claim is earlier than a report day
pub moved_any : (es : List Entry) (claim : ℕ) (report : Day) → list_any (λ x. earlier_movement es report x.number x.entry) (claim_entries_after es claim 0) ≡ moved_before_from es claim report 0 es
moved_any es claim report =
    claim_any claim (λ x. earlier_movement es report x.number x.entry) (moved_before_from es claim report) (λ _. refl)
    (λ n e rest is. ap (λ b. cond (b && earlier_movement es report (n + 1) e) true (moved_before_from es claim report (n + 1) rest)) (eq-eqb e.claim claim is))
    (λ n e rest other. cond-false _ _ _ (and_left _ _ other))
    es 0
