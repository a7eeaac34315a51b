-- A claim that a register's entries speak of is one that it takes. Assumes nothing.
use Rattle.std.proofs.Common.{◌≡◌, ℕ, zero, suc, ◌+◌, ◌-◌, ◌<◌, true, eqb, leb, List, [], ◌∷◌, Some, None, OnSome, Option, sym, ap, ◌∙◌, inl, inr, arith}
use Rattle.std.proofs.lemmas.Bool.{and_parts, cases_Bool, cond-true, cond-false, eqb-true, leb-true}
use Rattle.std.specs.List.{slice_get}
use Rattle.values.specs.declared.claim_days.ClaimDays.{ClaimDays}
use Rattle.register.specs.Entries.{claim_days_in, days_from, entry_in}
use Rattle.register.specs.Registers.{claims_known, is_claim}
use Rattle.register.specs.declared.entry.Entry.{Entry}

module _ (bound : ℕ) where
  days_from_lem : (es : List Entry) (claim : ℕ) (days : ClaimDays) → claims_known bound es ≡ true → days_from None es claim ≡ Some days → is_claim bound claim ≡ true
  days_from_lem [] claim days known is = absurd (let no : ◌≡◌ {A = ℕ} 0 1 = cc in omega arith)
  days_from_lem (e ∷ es) claim days known is =
      let both = and_parts (is_claim bound e.claim) (claims_known bound es) known in
      elim (cases_Bool (eqb e.claim claim)) [
        | inl here ↦ ap (is_claim bound) (sym (eqb-true e.claim claim here)) ∙ both.0
        | inr other ↦ days_from_lem es claim days both.1 (sym (ap (λ d. days_from d es claim) (cond-false _ _ _ other)) ∙ is)
      ]

  -- a claim with claim days in force
  pub days_known : (es : List Entry) (claim : ℕ) (days : Option ClaimDays) → claims_known bound es ≡ true → days ≡ claim_days_in es claim → OnSome days (is_claim bound claim ≡ true)
  days_known es claim None known is = tt
  days_known es claim (Some days) known is = days_from_lem es claim days known (sym is)

  nth_known : (es : List Entry) (i : ℕ) (e : Entry) → claims_known bound es ≡ true → slice_get es i ≡ Some e → is_claim bound e.claim ≡ true
  nth_known [] i e known is = absurd (let no : ◌≡◌ {A = ℕ} 0 1 = cc in omega arith)
  nth_known (x ∷ es) zero e known is =
      let same : x ≡ e = cc in
      ap (λ y. is_claim bound y.claim) (sym same) ∙ (and_parts (is_claim bound x.claim) (claims_known bound es) known).0
  nth_known (x ∷ es) (suc i) e known is = nth_known es i e (and_parts (is_claim bound x.claim) (claims_known bound es) known).1 is

  -- the claim of an entry
  pub entry_known : (es : List Entry) (n : ℕ) (e : Entry) → claims_known bound es ≡ true → Some e ≡ entry_in es n → is_claim bound e.claim ≡ true
  entry_known es n e known is =
      elim (cases_Bool (eqb n 0)) [
        | inl none ↦ absurd (let at : None ≡ Some e = sym (cond-true _ _ _ none) ∙ sym is in let no : ◌≡◌ {A = ℕ} 0 1 = cc in omega arith)
        | inr some ↦ nth_known es (n - 1) e known (sym (cond-false _ _ _ some) ∙ sym is)
      ]

  pub claim_within : (es : List Entry) (n : ℕ) (e : Entry) → claims_known bound es ≡ true → Some e ≡ entry_in es n → e.claim < bound + 1
  claim_within es n e known is = omega (arith, leb-true e.claim bound (and_parts (leb 1 e.claim) (leb e.claim bound) (entry_known es n e known is)).1)
