-- Tables of a list of entries, with one entry more. Assumes nothing.
use Rattle.std.proofs.Common.{◌≡◌, ℕ, zero, suc, ◌+◌, ◌<◌, ◌≤◌, Bool, true, false, cond, ◌&&◌, eqb, List, [], ◌∷◌, ◌++◌, map, length, get_or, drop, set, replicate, Some, None, Option, sym, refl, ap, ◌∙◌, inl, inr, arith}
use Rattle.std.proofs.lemmas.List.FromFn.{fill_by_all, get_or-map-range_with_len, length-map-range_with_len}
use Rattle.std.proofs.lemmas.List.{drop-append-le, drop_all, get_or-set_same, get_or-set_other, length_push, length-set}
use Rattle.std.proofs.lemmas.Bool.{and_right, cases_Bool, cases_eq, cases_lt, cond-true, cond-false, eq-eqb, eqb-false, eqb-true, ne_eqb, true≢false}
use Rattle.std.specs.List.{range_with_len}
use Rattle.values.specs.declared.claim_days.ClaimDays.{ClaimDays}
use Rattle.register.specs.Entries.{claim_days_in, days_after, entry_in, is_entry_of, is_number, named_by, of_claim, replaces}
use Rattle.register.specs.declared.entry.Entry.{Entry}
use Rattle.cube.specs.Tables.{days_by_claim, if_of_claim, is_replaced_in, replaced_by, replaced_by_number, replaced_next}
use Rattle.cube.proofs.KnownEntries.{entry_past}
use Rattle.cube.proofs.OneMore.{days_new, entry_old, replaces_append}

-- a list made from a function of the index
module _ {X : Type 0} where
  -- the same at every index
  pub counted_same : (f g : ℕ → X) → ((k : ℕ) → f k ≡ g k) → (a n : ℕ) → map f (range_with_len a n) ≡ map g (range_with_len a n)
  counted_same f g same a zero = refl
  counted_same f g same a (suc n) = ap (λ x. x ∷ map f (range_with_len (a + 1) n)) (same a) ∙ ap (λ xs. g a ∷ xs) (counted_same f g same (a + 1) n)

  -- one value at every index
  pub counted_one : (f : ℕ → X) (x : X) → ((k : ℕ) → f k ≡ x) → (a n : ℕ) → replicate n x ≡ map f (range_with_len a n)
  counted_one f x one a zero = refl
  counted_one f x one a (suc n) = ap (λ y. y ∷ replicate n x) (sym (one a)) ∙ ap (λ xs. f a ∷ xs) (counted_one f x one (a + 1) n)

  -- another at one index
  pub counted_set : (f g : ℕ → X) (n i : ℕ) (x : X) → i < n → x ≡ g i → ((k : ℕ) → (k ≡ i → ⊥) → f k ≡ g k) → set (map f (range_with_len 0 n)) i x ≡ map g (range_with_len 0 n)
  counted_set f g n i x less here other =
      fill_by_all g (set (map f (range_with_len 0 n)) i x) n x (length-set (map f (range_with_len 0 n)) i x ∙ length-map-range_with_len f 0 n)
      (λ k h.
      elim (cases_eq k i) [
        | inl is ↦ ap (λ j. get_or (set (map f (range_with_len 0 n)) i x) j x) is ∙ get_or-set_same (map f (range_with_len 0 n)) i x x (omega (arith, length-map-range_with_len f 0 n)) ∙ here ∙ sym (ap g is)
        | inr is ↦ get_or-set_other (map f (range_with_len 0 n)) i k x x is ∙ get_or-map-range_with_len f 0 n k k x h (omega arith) ∙ other k is
      ])

-- the claim days in force, with one entry more
pub days_noted : (bound : ℕ) (es : List Entry) (e : Entry) (table : List (Option ClaimDays)) → table ≡ days_by_claim bound es → e.claim < bound + 1 → set table e.claim (days_after (get_or table e.claim None) e.content) ≡ days_by_claim bound (es ++ (e ∷ []))
days_noted bound es e table is less =
    ap (λ t. set t e.claim (days_after (get_or t e.claim None) e.content)) is
    ∙ counted_set (claim_days_in es) (claim_days_in (es ++ (e ∷ []))) (bound + 1) e.claim _ less
    (ap (λ d. days_after d e.content) (get_or-map-range_with_len (claim_days_in es) 0 (bound + 1) e.claim e.claim None less (omega arith)) ∙ sym (days_new es e e.claim ∙ cond-true _ _ _ (eq-eqb e.claim e.claim refl)))
    (λ k other. sym (days_new es e k ∙ cond-false _ _ _ (ne_eqb e.claim k (λ is. other (sym is)))))

eqb_comm : (a b : ℕ) → eqb a b ≡ eqb b a
eqb_comm a b =
    elim (cases_Bool (eqb b a)) [
      | inl same ↦ eq-eqb a b (sym (eqb-true b a same)) ∙ sym same
      | inr other ↦ ne_eqb a b (λ is. eqb-false b a other (sym is)) ∙ sym other
    ]

number_named : (es : List Entry) (claim n : ℕ) (o : Option ℕ) → is_number (if_of_claim es claim o) n ≡ (is_entry_of es claim n && is_number o n)
number_named es claim n None = sym (and_right (is_entry_of es claim n) false refl)
number_named es claim n (Some t) =
    elim (cases_Bool (eqb t n)) [
      | inl same ↦ let is : t ≡ n = eqb-true t n same in ap (λ k. is_number (cond (is_entry_of es claim k) (Some k) None) n) is ∙ here (is_entry_of es claim n) ∙ ap (λ b. is_entry_of es claim n && b) (sym same)
      | inr other ↦ apart (is_entry_of es claim t) other ∙ sym (and_right (is_entry_of es claim n) (eqb t n) other)
    ]
  where
    here : (b : Bool) → is_number (cond b (Some n) None) n ≡ (b && true)
    here true = eq-eqb n n refl
    here false = refl

    apart : (b : Bool) → eqb t n ≡ false → is_number (cond b (Some t) None) n ≡ false
    apart true other = other
    apart false other = refl

-- whether an entry is replaced, with one entry more
replaced_more : (es : List Entry) (e : Entry) (n : ℕ) → is_replaced_in (es ++ (e ∷ [])) n ≡ cond (is_number (replaced_next es e) n) true (is_replaced_in es n)
replaced_more es e n =
    elim (cases_lt (length es) n) [
      | inl past ↦
          ap (λ rest. replaced_by rest n (entry_in (es ++ (e ∷ [])) n)) (drop_all n (es ++ (e ∷ [])) (omega (arith, length_push es e)))
          ∙ never (entry_in (es ++ (e ∷ [])) n)
          ∙ ap (λ o. cond (of_claim e.claim o && is_number (named_by e) n) true (replaced_by (drop n es) n o)) (sym (entry_past es n past))
          ∙ named
      | inr within ↦
          ap (λ rest. replaced_by rest n (entry_in (es ++ (e ∷ [])) n)) (drop-append-le n es (e ∷ []) within)
          ∙ ap (λ o. replaced_by (drop n es ++ (e ∷ [])) n o) (entry_old es e n within)
          ∙ at (entry_in es n)
          ∙ named
    ]
  where
    named : cond (is_entry_of es e.claim n && is_number (named_by e) n) true (is_replaced_in es n) ≡ cond (is_number (replaced_next es e) n) true (is_replaced_in es n)
    named = ap (λ b. cond b true (is_replaced_in es n)) (sym (number_named es e.claim n (named_by e)))

    never : (o : Option Entry) → replaced_by [] n o ≡ false
    never None = refl
    never (Some x) = refl

    swapped : (a b : Bool) → cond a true b ≡ cond b true a
    swapped true true = refl
    swapped true false = refl
    swapped false true = refl
    swapped false false = refl

    at : (o : Option Entry) → replaced_by (drop n es ++ (e ∷ [])) n o ≡ cond (of_claim e.claim o && is_number (named_by e) n) true (replaced_by (drop n es) n o)
    at None = refl
    at (Some x) =
        replaces_append (drop n es) e x.claim n
        ∙ swapped (replaces (drop n es) x.claim n) (eqb e.claim x.claim && is_number (named_by e) n)
        ∙ ap (λ b. cond (b && is_number (named_by e) n) true (replaces (drop n es) x.claim n)) (eqb_comm e.claim x.claim)

-- where the entry replaces none, and where it replaces one
pub none_noted : (count : ℕ) (es : List Entry) (e : Entry) → None ≡ replaced_next es e → replaced_by_number count es ≡ replaced_by_number count (es ++ (e ∷ []))
none_noted count es e none =
    counted_same (is_replaced_in es) (is_replaced_in (es ++ (e ∷ [])))
    (λ k. sym (replaced_more es e k ∙ ap (λ o. cond (is_number o k) true (is_replaced_in es k)) (sym none)))
    0 (count + 1)

pub one_noted : (count : ℕ) (es : List Entry) (e : Entry) (n : ℕ) → n < count + 1 → Some n ≡ replaced_next es e → set (replaced_by_number count es) n true ≡ replaced_by_number count (es ++ (e ∷ []))
one_noted count es e n less one =
    counted_set (is_replaced_in es) (is_replaced_in (es ++ (e ∷ []))) (count + 1) n true less
    (sym (more n ∙ cond-true _ _ _ (eq-eqb n n refl)))
    (λ k other. sym (more k ∙ cond-false _ _ _ (ne_eqb n k (λ is. other (sym is)))))
  where
    more : (k : ℕ) → is_replaced_in (es ++ (e ∷ [])) k ≡ cond (eqb n k) true (is_replaced_in es k)
    more k = replaced_more es e k ∙ ap (λ o. cond (is_number o k) true (is_replaced_in es k)) (sym one)

-- nothing is noted of no entries
pub none_replaced : (n : ℕ) → is_replaced_in [] n ≡ false
none_replaced n = ap (replaced_by (drop n []) n) (none_in (eqb n 0))
  where
    none_in : (b : Bool) → ◌≡◌ {A = Option Entry} (cond b None None) None
    none_in true = refl
    none_in false = refl

-- what holds of no `Some` holds of `None` alone
pub only_none : {X : Type 0} (P : Option X → Type 0) → ((x : X) → P (Some x) → ⊥) → (y : Option X) → P y → y ≡ None
only_none P not_some None holds = refl
only_none P not_some (Some x) holds = absurd (not_some x holds)

-- an entry that is replaced is one of the list
pub replaced_within : (es : List Entry) (e : Entry) (n : ℕ) → Some n ≡ replaced_next es e → n ≤ length es
replaced_within es e n is =
    elim (cases_lt (length es) n) [
      | inl past ↦ absurd (true≢false (sym (eq-eqb n n refl) ∙ ap (λ o. is_number o n) is ∙ number_named es e.claim n (named_by e) ∙ ap (λ o. of_claim e.claim o && is_number (named_by e) n) (entry_past es n past)))
      | inr within ↦ within
    ]

-- how long the tables are
pub length_days : (bound : ℕ) (es : List Entry) → length (days_by_claim bound es) ≡ bound + 1
length_days bound es = length-map-range_with_len (claim_days_in es) 0 (bound + 1)

pub length_replaced : (count : ℕ) (es : List Entry) → length (replaced_by_number count es) ≡ count + 1
length_replaced count es = length-map-range_with_len (is_replaced_in es) 0 (count + 1)
