-- What holds of every list of entries that calls have booked, and that one more entry which follows it keeps that. Assumes
-- nothing.
use Rattle.std.proofs.Common.{◌≡◌, ℕ, suc, ◌+◌, ◌-◌, ◌≤◌, Bool, true, false, cond, not, ◌&&◌, eqb, ◌⊎◌, List, [], ◌∷◌, ◌++◌, length, drop, Some, None, Option, sym, refl, ap, ◌∙◌, inl, inr, arith}
use Rattle.std.proofs.lemmas.List.{length_push}
use Rattle.std.proofs.lemmas.Bool.{cases_Bool, cases_eq, cond-true, cond-false, eq-eqb, eqb-true, false≢true, true≢false, ne_eqb}
use Rattle.std.specs.List.{slice_get}
use Rattle.values.specs.declared.claim_days.ClaimDays.{ClaimDays}
use Rattle.register.specs.Entries.{claim_days_in, days_after, days_from, entry_in, is_number, is_opening, named_by, openings_in, opens, stands_before, stands_in}
use Rattle.register.specs.declared.entry.Content.{Content}
use Rattle.register.specs.declared.entry.Content.TheVariants as content
use Rattle.register.specs.declared.entry.Correction as the_correction
use Rattle.register.specs.declared.entry.Entry.{Entry}
use Rattle.cube.proofs.Law.{Follows, entry_within}
use Rattle.cube.proofs.OneMore.{NamesBack, days_new, entry_new, entry_old, stands_old}

-- what holds of a list and a draft note that calls have made
pub record Reached (es : List Entry) (draft : Option ℕ) : Type 0 where
  -- corrections name earlier entries
  pub back : NamesBack es
  -- claims are numbered in the order of their opening, and each has claim days
  pub opened : (n : ℕ) (x : Entry) → entry_in es n ≡ Some x → x.claim ≤ openings_in es
  pub dated : (n : ℕ) (x : Entry) → entry_in es n ≡ Some x → (days : ClaimDays) × (claim_days_in es x.claim ≡ Some days)
  -- the movement under the open draft stands
  pub drafted : (n : ℕ) → draft ≡ Some n → stands_in es n ≡ true

-- an entry of the claim is behind its claim days
days_entry : (es : List Entry) (claim : ℕ) (days : ClaimDays) (n : ℕ) → days_from None es claim ≡ Some days → (i : ℕ) × (x : Entry) × (slice_get es i ≡ Some x) × (x.claim ≡ claim)
days_entry [] claim days n is = absurd (let z : ◌≡◌ {A = ℕ} 0 1 = cc in omega arith)
days_entry (e ∷ es) claim days n is =
    elim (cases_Bool (eqb e.claim claim)) [
      | inl here ↦ (0, e, refl, eqb-true e.claim claim here)
      | inr other ↦
          let rest = days_entry es claim days n (sym (ap (λ d. days_from d es claim) (cond-false _ _ _ other)) ∙ is) in
          (suc rest.0, rest.1, rest.2, rest.3)
    ]

-- a claim that has claim days is one of those that were opened
dated_opened : (es : List Entry) → ((n : ℕ) (x : Entry) → entry_in es n ≡ Some x → x.claim ≤ openings_in es) → (claim : ℕ) (days : ClaimDays) → claim_days_in es claim ≡ Some days → claim ≤ openings_in es
dated_opened es opened claim days is =
    let found = days_entry es claim days 0 is in
    let number : found.0 + 1 - 1 ≡ found.0 = omega arith in
    let at : entry_in es (found.0 + 1) ≡ Some found.1 = cond-false _ _ _ (ne_eqb (found.0 + 1) 0 (λ z. omega arith)) ∙ ap (slice_get es) number ∙ found.2 in
    omega (arith, opened (found.0 + 1) found.1 at, found.3)

openings_more : (es : List Entry) (e : Entry) → openings_in (es ++ (e ∷ [])) ≡ openings_in es + cond (is_opening e) 1 0
openings_more [] e = omega arith
openings_more (x ∷ es) e = omega (arith, openings_more es e)

follows_days : (es : List Entry) (claim : ℕ) (x : Content) → Follows es claim x → (after : ClaimDays) × (days_after (claim_days_in es claim) x ≡ Some after)
follows_days es claim (content.Opening o) follows = (o, refl)
follows_days es claim (content.Payment p) (days, is) = (days, is)
follows_days es claim (content.ReserveChange r) (days, is) = (days, is)
follows_days es claim (content.Correction c) (days, y, is, at, of, stands) = (days, is)
follows_days es claim (content.Void v) (days, y, is, at, of, stands) = (days, is)
follows_days es claim (content.Redating d) (days, is) = (d, refl)

follows_names : (es : List Entry) (claim : ℕ) (x : Content) → Follows es claim x → (k : the_correction.Correction) → x ≡ content.Correction k → k.names ≤ length es
follows_names es claim (content.Opening o) follows k is = absurd (let z : ◌≡◌ {A = ℕ} 0 1 = cc in omega arith)
follows_names es claim (content.Payment p) follows k is = absurd (let z : ◌≡◌ {A = ℕ} 0 1 = cc in omega arith)
follows_names es claim (content.ReserveChange r) follows k is = absurd (let z : ◌≡◌ {A = ℕ} 0 1 = cc in omega arith)
follows_names es claim (content.Correction c) (days, y, days_is, at, of, stands) k is = let same : c ≡ k = cc in omega (arith, ap (λ q. q.names) same, (entry_within es c.names y at).1)
follows_names es claim (content.Void v) follows k is = absurd (let z : ◌≡◌ {A = ℕ} 0 1 = cc in omega arith)
follows_names es claim (content.Redating d) follows k is = absurd (let z : ◌≡◌ {A = ℕ} 0 1 = cc in omega arith)

follows_claim : (es : List Entry) → ((n : ℕ) (x : Entry) → entry_in es n ≡ Some x → x.claim ≤ openings_in es) → (claim : ℕ) (x : Content) → Follows es claim x → opens x ≡ false → claim ≤ openings_in es
follows_claim es opened claim (content.Opening o) follows shut = absurd (true≢false shut)
follows_claim es opened claim (content.Payment p) (days, is) shut = dated_opened es opened claim days is
follows_claim es opened claim (content.ReserveChange r) (days, is) shut = dated_opened es opened claim days is
follows_claim es opened claim (content.Correction c) (days, y, is, at, of, stands) shut = dated_opened es opened claim days is
follows_claim es opened claim (content.Void v) (days, y, is, at, of, stands) shut = dated_opened es opened claim days is
follows_claim es opened claim (content.Redating d) (days, is) shut = dated_opened es opened claim days is

-- what stands is an entry
stands_entry : (es : List Entry) (n : ℕ) → stands_in es n ≡ true → (x : Entry) × (entry_in es n ≡ Some x)
stands_entry es n stands = look (entry_in es n) stands
  where
    look : (o : Option Entry) → stands_before (drop n es) n o ≡ true → (x : Entry) × (o ≡ Some x)
    look None h = absurd (false≢true h)
    look (Some x) h = (x, refl)

-- an entry of a list with one more at its end is one of the list, or that one
pub entry_split : (es : List Entry) (e : Entry) (n : ℕ) (x : Entry) → entry_in (es ++ (e ∷ [])) n ≡ Some x → ((n ≤ length es) × (entry_in es n ≡ Some x)) ⊎ ((n ≡ length es + 1) × (x ≡ e))
entry_split es e n x at =
    let more : List Entry = es ++ (e ∷ []) in
    let within = entry_within more n x at in
    let long = length_push es e in
    elim (cases_eq n (length es + 1)) [
      | inl same ↦ inr (same, let both : Some x ≡ Some e = sym at ∙ ap (entry_in more) same ∙ entry_new es e in cc)
      | inr other ↦ inl (omega (arith, within.1), sym (entry_old es e n (omega (arith, within.1))) ∙ at)
    ]

-- one entry more: the properties stay, if it follows, a new claim has the next number, and it does not replace the movement
-- under the draft that then is open
module _ (es : List Entry) (draft draft' : Option ℕ) (reached : Reached es draft) (e : Entry) (follows : Follows es e.claim e.content)
    (next : is_opening e ≡ true → e.claim ≡ openings_in es + 1)
    (kept : (n : ℕ) → draft' ≡ Some n → (draft ≡ Some n) × (is_number (named_by e) n ≡ false))
  where
    abbrev more : List Entry
    more = es ++ (e ∷ [])

    -- the claim days of the new entry's claim
    days_here : (days : ClaimDays) × (claim_days_in more e.claim ≡ Some days)
    days_here =
        let after = follows_days es e.claim e.content follows in
        (after.0, days_new es e e.claim ∙ cond-true _ _ _ (eq-eqb e.claim e.claim refl) ∙ after.1)

    back' : NamesBack more
    back' n x k at is =
        elim (entry_split es e n x at) [
          | inl old ↦ reached.back n x k old.1 is
          | inr new ↦ omega (arith, new.0, follows_names es e.claim e.content follows k (ap (λ y. y.content) (sym new.1) ∙ is))
        ]

    opened' : (n : ℕ) (x : Entry) → entry_in more n ≡ Some x → x.claim ≤ openings_in more
    opened' n x at =
        let count = openings_more es e in
        elim (entry_split es e n x at) [
          | inl old ↦ omega (arith, count, reached.opened n x old.1)
          | inr new ↦
              elim (cases_Bool (is_opening e)) [
                | inl opening ↦ omega (arith, ap (λ y. y.claim) new.1, next opening, count, cond-true {A = ℕ} (is_opening e) 1 0 opening)
                | inr shut ↦ omega (arith, ap (λ y. y.claim) new.1, count, follows_claim es reached.opened e.claim e.content follows shut)
              ]
        ]

    dated' : (n : ℕ) (x : Entry) → entry_in more n ≡ Some x → (days : ClaimDays) × (claim_days_in more x.claim ≡ Some days)
    dated' n x at =
        elim (entry_split es e n x at) [
          | inl old ↦
              let before = reached.dated n x old.1 in
              elim (cases_Bool (eqb e.claim x.claim)) [
                | inl ours ↦ let same = eqb-true e.claim x.claim ours in (days_here.0, ap (claim_days_in more) (sym same) ∙ days_here.1)
                | inr theirs ↦ (before.0, days_new es e x.claim ∙ cond-false _ _ _ theirs ∙ before.1)
              ]
          | inr new ↦ (days_here.0, ap (λ y. claim_days_in more y.claim) new.1 ∙ days_here.1)
        ]

    drafted' : (n : ℕ) → draft' ≡ Some n → stands_in more n ≡ true
    drafted' n is =
        let was = kept n is in
        let stood = reached.drafted n was.0 in
        let found = stands_entry es n stood in
        let bounds = entry_within es n found.0 found.1 in
        stands_old es e n found.0 bounds.1 found.1
        ∙ ap (λ b. stands_in es n && not (eqb e.claim found.0.claim && b)) was.1
        ∙ free (eqb e.claim found.0.claim) (stands_in es n) stood
      where
        free : (a b : Bool) → b ≡ true → (b && not (a && false)) ≡ true
        free true true h = refl
        free false true h = refl
        free true false h = h
        free false false h = h

    pub reached_more : Reached more draft'
    reached_more = record { back = back'; opened = opened'; dated = dated'; drafted = drafted' }

-- the new state
pub reached_new : Reached [] None
reached_new = record {
  back = λ n x k at is. absurd (none n x at);
  opened = λ n x at. absurd (none n x at);
  dated = λ n x at. absurd (none n x at);
  drafted = λ n is. absurd (let z : ◌≡◌ {A = ℕ} 0 1 = cc in omega arith);
}
  where
    none : (n : ℕ) (x : Entry) → entry_in [] n ≡ Some x → ⊥
    none n x at = let within = entry_within [] n x at in omega (arith, within.0, within.1)
