-- A list of entries with one more at its end: what it says of the entries before. Assumes nothing.
use Rattle.std.proofs.Common.{◌≡◌, ℕ, zero, suc, ◌+◌, ◌-◌, ◌<◌, ◌≤◌, Bool, true, false, cond, not, ◌&&◌, eqb, List, [], ◌∷◌, ◌++◌, length, drop, Some, None, Option, sym, refl, ap, ◌∙◌, inl, inr, arith}
use Rattle.std.proofs.lemmas.List.{drop-append-le, drop_all, length_push}
use Rattle.std.proofs.lemmas.Bool.{cases_Bool, cond-true, cond-false, eqb-false, ne_eqb}
use Rattle.std.specs.List.{slice_get}
use Rattle.values.specs.declared.claim_days.ClaimDays.{ClaimDays}
use Rattle.register.specs.Entries.{claim_days_in, days_after, days_from, entry_in, is_movement, is_number, kind_from, kind_in, kind_of, kind_within, named_by, replaces, stands_before, stands_in}
use Rattle.register.specs.declared.entry.Content.{Content}
use Rattle.register.specs.declared.entry.Content.TheVariants.{Opening, Payment, ReserveChange, Correction, Void, Redating}
use Rattle.register.specs.declared.entry.Correction as the_correction
use Rattle.register.specs.declared.entry.Entry.{Entry}
use Rattle.register.specs.declared.kind.MovementKind.{MovementKind}

nth_append : (es : List Entry) (e : Entry) (i : ℕ) → i < length es → slice_get (es ++ (e ∷ [])) i ≡ slice_get es i
nth_append [] e i h = absurd (omega arith)
nth_append (x ∷ es) e zero h = refl
nth_append (x ∷ es) e (suc i) h = nth_append es e i (omega arith)

nth_last : (es : List Entry) (e : Entry) → slice_get (es ++ (e ∷ [])) (length es) ≡ Some e
nth_last [] e = refl
nth_last (x ∷ es) e = nth_last es e

days_append : (before : Option ClaimDays) (es : List Entry) (e : Entry) (c : ℕ) → days_from before (es ++ (e ∷ [])) c ≡ cond (eqb e.claim c) (days_after (days_from before es c) e.content) (days_from before es c)
days_append before [] e c = refl
days_append before (x ∷ es) e c = days_append (cond (eqb x.claim c) (days_after before x.content) before) es e c

pub replaces_append : (es : List Entry) (e : Entry) (c n : ℕ) → replaces (es ++ (e ∷ [])) c n ≡ cond (replaces es c n) true (eqb e.claim c && is_number (named_by e) n)
replaces_append [] e c n = choose (eqb e.claim c && is_number (named_by e) n)
  where
    choose : (b : Bool) → cond b true false ≡ b
    choose true = refl
    choose false = refl
replaces_append (x ∷ es) e c n = choose (eqb x.claim c && is_number (named_by x) n) (replaces_append es e c n)
  where
    choose : (b : Bool) → replaces (es ++ (e ∷ [])) c n ≡ cond (replaces es c n) true (eqb e.claim c && is_number (named_by e) n) → cond b true (replaces (es ++ (e ∷ [])) c n) ≡ cond (cond b true (replaces es c n)) true (eqb e.claim c && is_number (named_by e) n)
    choose true rest = refl
    choose false rest = rest

-- corrections name earlier entries
abbrev pub NamesBack : List Entry → Type 0
NamesBack es = (n : ℕ) (x : Entry) (k : the_correction.Correction) → entry_in es n ≡ Some x → x.content ≡ Correction k → k.names < n

kind_of_same : (x : Content) (f g : ℕ → Option MovementKind) → ((k : the_correction.Correction) → x ≡ Correction k → f k.names ≡ g k.names) → kind_of x f ≡ kind_of x g
kind_of_same (Opening o) f g same = refl
kind_of_same (Payment p) f g same = refl
kind_of_same (ReserveChange r) f g same = refl
kind_of_same (Correction k) f g same = same k refl
kind_of_same (Void v) f g same = refl
kind_of_same (Redating d) f g same = refl

kind_from_same : (o : Option Entry) (f g : ℕ → Option MovementKind) → ((x : Entry) (k : the_correction.Correction) → o ≡ Some x → x.content ≡ Correction k → f k.names ≡ g k.names) → kind_from o f ≡ kind_from o g
kind_from_same None f g same = refl
kind_from_same (Some x) f g same = kind_of_same x.content f g (λ k is. same x k refl is)

-- enough steps are enough
kind_fuel : (es : List Entry) → NamesBack es → (b s t n : ℕ) → n ≤ b → n ≤ s → n ≤ t → kind_within es s n ≡ kind_within es t n
kind_fuel es back b zero zero n h i j = refl
kind_fuel es back b zero (suc t) n h i j = let none : n ≡ 0 = omega arith in sym (ap (λ k. kind_from (entry_in es k) (kind_within es t)) none)
kind_fuel es back b (suc s) zero n h i j = let none : n ≡ 0 = omega arith in ap (λ k. kind_from (entry_in es k) (kind_within es s)) none
kind_fuel es back zero (suc s) (suc t) n h i j =
    let none : n ≡ 0 = omega arith in
    ap (λ k. kind_from (entry_in es k) (kind_within es s)) none ∙ sym (ap (λ k. kind_from (entry_in es k) (kind_within es t)) none)
kind_fuel es back (suc b) (suc s) (suc t) n h i j =
    kind_from_same (entry_in es n) (kind_within es s) (kind_within es t)
    (λ x k at is. let less = back n x k at is in kind_fuel es back b s t k.names (omega arith) (omega arith) (omega arith))

module _ (es : List Entry) (e : Entry) where
  abbrev longer : List Entry
  longer = es ++ (e ∷ [])

  pub entry_old : (n : ℕ) → n ≤ length es → entry_in longer n ≡ entry_in es n
  entry_old n h =
      elim (cases_Bool (eqb n 0)) [
        | inl none ↦ cond-true _ _ _ none ∙ sym (cond-true _ _ _ none)
        | inr some ↦ cond-false _ _ _ some ∙ nth_append es e (n - 1) (omega (arith, eqb-false n 0 some)) ∙ sym (cond-false _ _ _ some)
      ]

  pub entry_new : entry_in longer (length es + 1) ≡ Some e
  entry_new =
      let at : length es + 1 - 1 ≡ length es = omega arith in
      cond-false _ _ _ (ne_eqb (length es + 1) 0 (λ z. omega arith)) ∙ ap (slice_get longer) at ∙ nth_last es e

  pub days_new : (c : ℕ) → claim_days_in longer c ≡ cond (eqb e.claim c) (days_after (claim_days_in es c) e.content) (claim_days_in es c)
  days_new c = days_append None es e c

  -- an old movement stands unless the new entry is one of its claim that names it
  pub stands_old : (n : ℕ) (x : Entry) → n ≤ length es → entry_in es n ≡ Some x → stands_in longer n ≡ stands_in es n && not (eqb e.claim x.claim && is_number (named_by e) n)
  stands_old n x h is =
      ap (λ o. stands_before (drop n longer) n o) (entry_old n h ∙ is)
      ∙ ap (λ rest. is_movement x && not (replaces rest x.claim n)) (drop-append-le n es (e ∷ []) h)
      ∙ ap (λ b. is_movement x && not b) (replaces_append (drop n es) e x.claim n)
      ∙ choose (is_movement x) (replaces (drop n es) x.claim n) (eqb e.claim x.claim && is_number (named_by e) n)
      ∙ ap (λ o. stands_before (drop n es) n o && not (eqb e.claim x.claim && is_number (named_by e) n)) (sym is)
    where
      choose : (a b c : Bool) → (a && not (cond b true c)) ≡ (a && not b && not c)
      choose true true c = refl
      choose true false c = refl
      choose false true c = refl
      choose false false c = refl

  pub stands_new : stands_in longer (length es + 1) ≡ is_movement e
  stands_new =
      ap (λ o. stands_before (drop (length es + 1) longer) (length es + 1) o) entry_new
      ∙ ap (λ rest. is_movement e && not (replaces rest e.claim (length es + 1))) (drop_all (length es + 1) longer (omega (arith, length_push es e)))
      ∙ choose (is_movement e)
    where
      choose : (a : Bool) → (a && true) ≡ a
      choose true = refl
      choose false = refl

  module _ (back : NamesBack es) where
    within_old : (s n : ℕ) → n ≤ length es → kind_within longer s n ≡ kind_within es s n
    within_old zero n h = refl
    within_old (suc s) n h =
        ap (λ o. kind_from o (kind_within longer s)) (entry_old n h)
        ∙ kind_from_same (entry_in es n) (kind_within longer s) (kind_within es s) (λ x k at is. let less = back n x k at is in within_old s k.names (omega arith))

    pub kind_old : (n : ℕ) → n ≤ length es → kind_in longer n ≡ kind_in es n
    kind_old n h = within_old n n h

    pub kind_new : ((k : the_correction.Correction) → e.content ≡ Correction k → k.names ≤ length es) → kind_in longer (length es + 1) ≡ kind_of e.content (kind_in es)
    kind_new named =
        let at : length es + 1 ≡ suc (length es) = omega arith in
        ap (λ s. kind_within longer s (length es + 1)) at
        ∙ ap (λ o. kind_from o (kind_within longer (length es))) entry_new
        ∙ kind_of_same e.content (kind_within longer (length es)) (kind_in es)
        (λ k is. let h = named k is in within_old (length es) k.names h ∙ kind_fuel es back k.names (length es) k.names k.names (omega arith) h (omega arith))
