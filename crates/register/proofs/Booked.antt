-- A list of entries with one more at its end, and the first entry of a claim in a list. Assumes nothing.
use Rattle.std.proofs.Common.{◌≡◌, ℕ, zero, suc, ◌+◌, ◌-◌, ◌<◌, ◌≤◌, Bool, true, false, cond, not, eqb, ltb, List, [], ◌∷◌, ◌++◌, length, get_or, drop, Some, None, Result, Ok, Err, sym, refl, ap, ◌∙◌, inl, inr, arith}
use Rattle.std.specs.Result.{is_ok}
use Rattle.std.specs.List.{position, position_or_len}
use Rattle.std.proofs.lemmas.List.{get_or-drop, length-drop}
use Rattle.std.proofs.lemmas.List.Folds.{list_all-append}
use Rattle.std.proofs.lemmas.List.Quantifiers.{position-Some}
use Rattle.std.proofs.lemmas.Bool.{and_from, eq-eqb, ne_eqb, cond-true, cond-false, cases_Bool, cases_lt, lt-ltb}
use Rattle.register.specs.declared.bounded.CapacityError.{CapacityError}
use Rattle.register.specs.declared.entry.Entry.{Entry}
use Rattle.register.specs.Entries.{is_opening, openings_in}
use Rattle.register.specs.Registers.{is_claim, claims_known, first_of, next_in}

-- a push onto a bounded list that has room
pub push_fits : {T : Type 0} (room : ℕ) (before after : List T) (x : T) (answer : Result (Unit {0}) CapacityError) → length before < room → answer ≡ cond (ltb (length before) room) (Ok tt) (Err (record {})) → after ≡ cond (is_ok answer) (before ++ (x ∷ [])) before → after ≡ before ++ (x ∷ [])
push_fits room before after x answer free is left = left ∙ cond-true _ _ _ (ap is_ok (is ∙ cond-true _ _ _ (lt-ltb _ _ free)))

one_or_none : (b : Bool) → cond b 1 0 ≤ 1
one_or_none true = omega arith
one_or_none false = omega arith

pub openings_push : (es : List Entry) (e : Entry) → openings_in (es ++ (e ∷ [])) ≡ openings_in es + cond (is_opening e) 1 0
openings_push [] e = omega arith
openings_push (x ∷ es) e = omega (arith, openings_push es e)

pub openings_le : (es : List Entry) → openings_in es ≤ length es
openings_le [] = omega arith
openings_le (e ∷ es) = omega (arith, openings_le es, one_or_none (is_opening e))

pub claims_push : (bound : ℕ) (es : List Entry) (e : Entry) → claims_known bound es ≡ true → is_claim bound e.claim ≡ true → claims_known bound (es ++ (e ∷ [])) ≡ true
claims_push bound es e known is = list_all-append (λ x. is_claim bound x.claim) es (e ∷ []) ∙ and_from _ _ known (and_from _ _ is refl)

-- the first entry of a claim is the k-th of the list, if none before it is of the claim
first_at : (es : List Entry) (claim n k : ℕ) (d : Entry) → k < length es → eqb (get_or es k d).claim claim ≡ true → ((j : ℕ) → j < k → eqb (get_or es j d).claim claim ≡ false) → first_of es claim n ≡ Some (record { number = n + k + 1; entry = get_or es k d })
first_at [] claim n k d within is none = absurd (omega arith)
first_at (e ∷ es) claim n zero d within is none = cond-true _ _ _ is ∙ ap (λ m. Some (record { number = m; entry = e })) (omega arith)
first_at (e ∷ es) claim n (suc k) d within is none =
    cond-false _ _ _ (none 0 (omega arith)) ∙ first_at es claim (n + 1) k d (omega arith) is (λ j h. none (suc j) (omega arith))
    ∙ ap (λ m. Some (record { number = m; entry = get_or es k d })) (omega arith)

first_none : (es : List Entry) (claim n : ℕ) (d : Entry) → ((j : ℕ) → j < length es → eqb (get_or es j d).claim claim ≡ false) → first_of es claim n ≡ None
first_none [] claim n d none = refl
first_none (e ∷ es) claim n d none = cond-false _ _ _ (none 0 (omega arith)) ∙ first_none es claim (n + 1) d (λ j h. none (suc j) (omega arith))

-- the same by the position of the claim in the list
abbrev of : ℕ → Entry → Bool
of claim e = eqb e.claim claim

past_all : (es : List Entry) (claim n : ℕ) → length es ≤ position_or_len (of claim) es → first_of es claim n ≡ None
past_all [] claim n past = refl
past_all (e ∷ es) claim n past =
    elim (cases_Bool (of claim e)) [
      | inl is ↦ absurd (omega (arith, cond-false (not (of claim e)) (1 + position_or_len (of claim) es) 0 (ap not is)))
      | inr other ↦ cond-false _ _ _ other ∙ past_all es claim (n + 1) (omega (arith, cond-true (not (of claim e)) (1 + position_or_len (of claim) es) 0 (ap not other)))
    ]

module _ (es later : List Entry) (claim after : ℕ) (are : later ≡ drop after es) where
  pub next_at : (i : ℕ) (e : Entry) → Some i ≡ position (of claim) later → e ≡ get_or later i e → Some (record { number = after + i + 1; entry = e }) ≡ next_in es claim after
  next_at i e found read =
      let at = position-Some (of claim) later i e (sym found) in
      sym (ap (λ rest. first_of rest claim after) (sym are) ∙ first_at later claim after i e at.0 at.1 at.2 ∙ ap (λ x. Some (record { number = after + i + 1; entry = x })) (sym read))

  pub next_past : None ≡ position (of claim) later → None ≡ next_in es claim after
  next_past none =
      elim (cases_lt (position_or_len (of claim) later) (length later)) [
        | inl within ↦ absurd (let at : Some (position_or_len (of claim) later) ≡ None = sym (none ∙ cond-true _ _ _ (lt-ltb _ _ within)) in let no : ◌≡◌ {A = ℕ} 0 1 = cc in omega arith)
        | inr past ↦ sym (ap (λ rest. first_of rest claim after) (sym are) ∙ past_all later claim after past)
      ]

-- the next entry of a claim is the entry n, if none between the number and n is of the claim
pub next_is : (es : List Entry) (claim after n : ℕ) (d : Entry) → after < n → n ≤ length es → ((j : ℕ) → after ≤ j → j < n - 1 → (get_or es j d).claim ≡ claim → ⊥) → (get_or es (n - 1) d).claim ≡ claim → next_in es claim after ≡ Some (record { number = n; entry = get_or es (n - 1) d })
next_is es claim after n d later within none is =
    let at : (k : ℕ) → get_or (drop after es) k d ≡ get_or es (after + k) d = λ k. get_or-drop after es k d in
    let here : after + (n - 1 - after) ≡ n - 1 = omega arith in
    first_at (drop after es) claim after (n - 1 - after) d (omega (arith, length-drop after es))
    (eq-eqb _ _ (ap (λ x. x.claim) (at (n - 1 - after)) ∙ ap (λ m. (get_or es m d).claim) here ∙ is))
    (λ j h. ne_eqb _ _ (λ same. none (after + j) (omega arith) (omega arith) (ap (λ x. x.claim) (sym (at j)) ∙ same)))
    ∙ ap (λ x. Some (record { number = after + (n - 1 - after) + 1; entry = x })) (at (n - 1 - after) ∙ ap (λ m. get_or es m d) here)
    ∙ ap (λ m. Some (record { number = m; entry = get_or es (n - 1) d })) (omega arith)

-- there is none, if no entry after the number is of the claim
pub next_none : (es : List Entry) (claim after : ℕ) (d : Entry) → ((j : ℕ) → after ≤ j → j < length es → (get_or es j d).claim ≡ claim → ⊥) → next_in es claim after ≡ None
next_none es claim after d none =
    first_none (drop after es) claim after d
    (λ j h. ne_eqb _ _ (λ same. none (after + j) (omega arith) (omega (arith, length-drop after es)) (ap (λ x. x.claim) (sym (get_or-drop after es j d)) ∙ same)))
