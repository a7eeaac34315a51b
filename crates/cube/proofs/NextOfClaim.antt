-- Walking over the entries of a claim by asking for the next, one step at a time: for a loop that is no loop over the register's
-- iterator. Assumes nothing.
use Rattle.std.proofs.Common.{◌≡◌, ℕ, suc, ◌+◌, ◌-◌, ◌<◌, ◌≤◌, true, false, cond, ◌&&◌, eqb, List, [], ◌∷◌, ◌++◌, length, drop, Some, None, Option, sym, ap, ◌∙◌, inl, inr, arith}
use Rattle.std.proofs.lemmas.List.{drop-drop, length-drop}
use Rattle.std.proofs.lemmas.Bool.{cases_Bool, cond-true, cond-false, eqb-true, eq-eqb, and_left}
use Rattle.register.specs.declared.entry.Entry.{Entry}
use Rattle.register.specs.declared.numbered.NumberedEntry.{NumberedEntry}
use Rattle.values.specs.Cohorts.{Meaning}
use Rattle.values.specs.declared.claim_days.ClaimDays.{ClaimDays}
use Rattle.values.specs.declared.day.Day.{Day}
use Rattle.cube.specs.declared.terms.Direction.{Direction}
use Rattle.cube.specs.Brings.{claim_part_from, standing_part}
use Rattle.cube.specs.Model.{earlier_movement, moved_before_from}
use Rattle.cube.specs.Sheets.{Share}
use Rattle.register.specs.Entries.{days_after, days_from, replaces, is_number, named_by}
use Rattle.register.specs.Registers.{first_of, next_in}

-- a function of a list and of the number before its first entry, that looks only at the entries of the claim
module _ {X : Type 0} (claim : ℕ) (H : ℕ → List Entry → X) (skip : (n : ℕ) (e : Entry) (es : List Entry) → eqb e.claim claim ≡ false → H n (e ∷ es) ≡ H (n + 1) es) where
  first_some : (es : List Entry) (n : ℕ) (x : NumberedEntry) → first_of es claim n ≡ Some x → (H n es ≡ H (x.number - 1) (x.entry ∷ drop (x.number - n) es)) × (x.entry.claim ≡ claim) × (n < x.number) × (x.number ≤ n + length es)
  first_some [] n x is = absurd (let no : ◌≡◌ {A = ℕ} 0 1 = cc in omega arith)
  first_some (e ∷ es) n x is =
      elim (cases_Bool (eqb e.claim claim)) [
        | inl here ↦
            let at : Some (record { number = n + 1; entry = e }) ≡ Some x = sym (cond-true _ _ _ here) ∙ is in
            let number : n + 1 ≡ x.number = cc in
            let entry : e ≡ x.entry = cc in
            let one : 1 ≡ x.number - n = omega arith in
            let from : n ≡ x.number - 1 = omega arith in (
              ap (λ y. H n (y ∷ es)) entry ∙ ap (λ k. H n (x.entry ∷ drop k (e ∷ es))) one ∙ ap (λ k. H k (x.entry ∷ drop (x.number - n) (e ∷ es))) from,
              ap (λ y. y.claim) (sym entry) ∙ eqb-true _ _ here,
              omega arith,
              omega arith,
            )
        | inr other ↦
            let rest = first_some es (n + 1) x (sym (cond-false _ _ _ other) ∙ is) in
            let on : suc (x.number - (n + 1)) ≡ x.number - n = omega (arith, rest.2) in
            (skip n e es other ∙ rest.0 ∙ ap (λ k. H (x.number - 1) (x.entry ∷ drop k (e ∷ es))) on, rest.1, omega (arith, rest.2), omega (arith, rest.3))
      ]

  first_none : (es : List Entry) (n : ℕ) → first_of es claim n ≡ None → H n es ≡ H (n + length es) []
  first_none [] n is = let same : n ≡ n + 0 = omega arith in ap (λ k. H k []) same
  first_none (e ∷ es) n is =
      elim (cases_Bool (eqb e.claim claim)) [
        | inl here ↦ absurd (let at : Some (record { number = n + 1; entry = e }) ≡ None = sym (cond-true _ _ _ here) ∙ is in let no : ◌≡◌ {A = ℕ} 0 1 = cc in omega arith)
        | inr other ↦
            let on : n + 1 + length es ≡ n + suc (length es) = omega arith in
            skip n e es other ∙ first_none es (n + 1) (sym (cond-false _ _ _ other) ∙ is) ∙ ap (λ k. H k []) on
      ]

  -- the next entry of the claim, and none
  pub next_some : (es : List Entry) (after : ℕ) (x : NumberedEntry) → Some x ≡ next_in es claim after → (H after (drop after es) ≡ H (x.number - 1) (x.entry ∷ drop x.number es)) × (x.entry.claim ≡ claim) × (after < x.number) × (x.number ≤ length es)
  next_some es after x is =
      let found = first_some (drop after es) after x (sym is) in
      let on : drop (x.number - after) (drop after es) ≡ drop x.number es = drop-drop (x.number - after) after es ∙ ap (λ k. drop k es) (omega (arith, found.2)) in
      (found.0 ∙ ap (λ r. H (x.number - 1) (x.entry ∷ r)) on, found.1, found.2, omega (arith, found.3, found.2, length-drop after es))

  pub next_none : (es : List Entry) (after : ℕ) → None ≡ next_in es claim after → H after (drop after es) ≡ H (after + length (drop after es)) []
  next_none es after is = first_none (drop after es) after (sym is)

-- the claim days in force, one entry of the claim on
pub days_some : (es : List Entry) (claim after : ℕ) (before : Option ClaimDays) (x : NumberedEntry) → Some x ≡ next_in es claim after → (days_from before (drop after es) claim ≡ days_from (days_after before x.entry.content) (drop x.number es) claim) × (after < x.number) × (x.number ≤ length es)
days_some es claim after before x is =
    let found = next_some claim (λ _ rest. days_from before rest claim) (λ _ e rest other. ap (λ d. days_from d rest claim) (cond-false _ _ _ other)) es after x is in
    (found.0 ∙ ap (λ d. days_from d (drop x.number es) claim) (cond-true _ _ _ (eq-eqb x.entry.claim claim found.1)), found.2, found.3)

pub days_none : (es : List Entry) (claim after : ℕ) (before : Option ClaimDays) → None ≡ next_in es claim after → days_from before (drop after es) claim ≡ before
days_none es claim after before is = next_none claim (λ _ rest. days_from before rest claim) (λ _ e rest other. ap (λ d. days_from d rest claim) (cond-false _ _ _ other)) es after is

-- whether an entry is replaced, one entry of the claim on
module _ (es : List Entry) (claim after n : ℕ) where
  replaces_skip : (e : Entry) (rest : List Entry) → eqb e.claim claim ≡ false → replaces (e ∷ rest) claim n ≡ replaces rest claim n
  replaces_skip e rest other = cond-false _ _ _ (and_left _ _ other)

  pub replaces_some : (x : NumberedEntry) → Some x ≡ next_in es claim after → (replaces (drop after es) claim n ≡ cond (is_number (named_by x.entry) n) true (replaces (drop x.number es) claim n)) × (after < x.number) × (x.number ≤ length es)
  replaces_some x is =
      let found = next_some claim (λ _ rest. replaces rest claim n) (λ _. replaces_skip) es after x is in
      let same : (eqb x.entry.claim claim && is_number (named_by x.entry) n) ≡ is_number (named_by x.entry) n = ap (λ b. b && is_number (named_by x.entry) n) (eq-eqb x.entry.claim claim found.1) in
      (found.0 ∙ ap (λ b. cond b true (replaces (drop x.number es) claim n)) same, found.2, found.3)

  pub replaces_none : None ≡ next_in es claim after → replaces (drop after es) claim n ≡ false
  replaces_none is = next_none claim (λ _ rest. replaces rest claim n) (λ _. replaces_skip) es after is

-- the claim's part of the sheet, one entry of the claim on
module _ (m : Meaning) (valued : Option Day) (es : List Entry) (claim : ℕ) (days : ClaimDays) (sign : Direction) (after : ℕ) where
  abbrev part : ℕ → List Entry → List Share
  part n rest = claim_part_from m valued es claim days sign n rest

  part_skip : (n : ℕ) (e : Entry) (rest : List Entry) → eqb e.claim claim ≡ false → part n (e ∷ rest) ≡ part (n + 1) rest
  part_skip n e rest other = ap (λ xs. xs ++ part (n + 1) rest) (cond-false _ _ _ other)

  pub part_some : (x : NumberedEntry) → Some x ≡ next_in es claim after → (part after (drop after es) ≡ standing_part m valued es days sign x.number x.entry ++ part x.number (drop x.number es)) × (after < x.number) × (x.number ≤ length es)
  part_some x is =
      let found = next_some claim part part_skip es after x is in
      let same : x.number - 1 + 1 ≡ x.number = omega (arith, found.2) in
      let here = ap (λ xs. xs ++ part (x.number - 1 + 1) (drop x.number es)) (cond-true _ _ _ (eq-eqb x.entry.claim claim found.1)) in
      (found.0 ∙ here ∙ ap (λ k. standing_part m valued es days sign k x.entry ++ part k (drop x.number es)) same, found.2, found.3)

  pub part_none : None ≡ next_in es claim after → part after (drop after es) ≡ []
  part_none is = next_none claim part part_skip es after is

-- whether a movement of the claim is earlier, one entry of the claim on
module _ (es : List Entry) (claim : ℕ) (report : Day) (after : ℕ) where
  moved_skip : (n : ℕ) (e : Entry) (rest : List Entry) → eqb e.claim claim ≡ false → moved_before_from es claim report n (e ∷ rest) ≡ moved_before_from es claim report (n + 1) rest
  moved_skip n e rest other = cond-false _ _ _ (and_left _ _ other)

  pub moved_some : (x : NumberedEntry) → Some x ≡ next_in es claim after → (moved_before_from es claim report after (drop after es) ≡ cond (earlier_movement es report x.number x.entry) true (moved_before_from es claim report x.number (drop x.number es))) × (after < x.number) × (x.number ≤ length es)
  moved_some x is =
      let found = next_some claim (moved_before_from es claim report) moved_skip es after x is in
      let number : x.number - 1 + 1 ≡ x.number = omega (arith, found.2) in
      let of = ap (λ b. cond (b && earlier_movement es report (x.number - 1 + 1) x.entry) true (moved_before_from es claim report (x.number - 1 + 1) (drop x.number es))) (eq-eqb x.entry.claim claim found.1) in
      (found.0 ∙ of ∙ ap (λ k. cond (earlier_movement es report k x.entry) true (moved_before_from es claim report k (drop x.number es))) number, found.2, found.3)

  pub moved_none : None ≡ next_in es claim after → moved_before_from es claim report after (drop after es) ≡ false
  moved_none is = next_none claim (moved_before_from es claim report) moved_skip es after is
