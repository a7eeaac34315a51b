-- The first entries of a list, and one entry more. Assumes nothing.
use Rattle.std.proofs.Common.{◌≡◌, ℕ, zero, suc, ◌+◌, ◌-◌, ◌<◌, ◌≤◌, true, eqb, List, [], ◌∷◌, ◌++◌, length, get_or, take, drop, filter, Some, None, IfSome, Option, sym, refl, ap, ◌∙◌, inl, inr, arith}
use Rattle.std.proofs.lemmas.List.{drop_more, length-take-le, take_more}
use Rattle.std.proofs.lemmas.Option.{slice_get-get_or, slice_get_past as nth_past}
use Rattle.std.proofs.lemmas.List.Sums.{length-filter}
use Rattle.std.proofs.lemmas.Bool.{cases_Bool, cases_lt, cond-true, cond-false, eqb-false, ne_eqb}
use Rattle.std.specs.List.{slice_get}
use Rattle.values.specs.declared.day.Day.{Day}
use Rattle.register.specs.Entries.{entry_in}
use Rattle.register.specs.Registers.{Meaning, claims_known, is_claim, numbered_from}
use Rattle.register.specs.declared.entry.Entry.{Entry}
use Rattle.register.specs.declared.numbered.NumberedEntry.{NumberedEntry}
use Rattle.cube.specs.Queries.{booked_by, is_booked_by}
use Rattle.cube.proofs.KnownClaims.{entry_known}

nth_within : (count : ℕ) (es : List Entry) (i : ℕ) → i < count → slice_get (take count es) i ≡ slice_get es i
nth_within zero es i h = absurd (omega arith)
nth_within (suc count) [] i h = refl
nth_within (suc count) (e ∷ es) zero h = refl
nth_within (suc count) (e ∷ es) (suc i) h = nth_within count es i (omega arith)

nth_after : (count : ℕ) (es : List Entry) (i : ℕ) → count ≤ i → slice_get (take count es) i ≡ None
nth_after zero es i h = refl
nth_after (suc count) [] i h = refl
nth_after (suc count) (e ∷ es) zero h = absurd (omega arith)
nth_after (suc count) (e ∷ es) (suc i) h = nth_after count es i (omega arith)

-- an entry among the first ones, and none
pub entry_within : (count : ℕ) (es : List Entry) (n : ℕ) → n ≤ count → entry_in (take count es) n ≡ entry_in es n
entry_within count es n h =
    elim (cases_Bool (eqb n 0)) [
      | inl none ↦ cond-true _ _ _ none ∙ sym (cond-true _ _ _ none)
      | inr some ↦ cond-false _ _ _ some ∙ nth_within count es (n - 1) (omega (arith, eqb-false n 0 some)) ∙ sym (cond-false _ _ _ some)
    ]

pub entry_after : (count : ℕ) (es : List Entry) (n : ℕ) → count < n → entry_in (take count es) n ≡ None
entry_after count es n h =
    elim (cases_Bool (eqb n 0)) [
      | inl none ↦ cond-true _ _ _ none
      | inr some ↦ cond-false _ _ _ some ∙ nth_after count es (n - 1) (omega arith)
    ]

pub entry_past : (es : List Entry) (n : ℕ) → length es < n → entry_in es n ≡ None
entry_past es n h = cond-false _ _ _ (ne_eqb n 0 (λ is. omega arith)) ∙ nth_past es (n - 1) (omega arith)

-- the claim of an entry of the first ones is one that the register takes
pub claim_first : (book : Meaning) (count n : ℕ) → claims_known book.bound book.entries ≡ true → (o : Option Entry) → o ≡ entry_in (take count book.entries) n → IfSome o (λ e. is_claim book.bound e.claim ≡ true)
claim_first book count n known None is = tt
claim_first book count n known (Some e) is =
    elim (cases_lt count n) [
      | inl past ↦ absurd (let at : Some e ≡ None = is ∙ entry_after count book.entries n past in let no : ◌≡◌ {A = ℕ} 0 1 = cc in omega arith)
      | inr within ↦ entry_known book.bound book.entries n e known (is ∙ entry_within count book.entries n within)
    ]

-- the entry numbered i + 1 is the last of the first i + 1
pub record Next (es : List Entry) (i : ℕ) (e : Entry) : Type 0 where
  pub within : i < length es
  pub long : length (take i es) ≡ i
  pub front : take (i + 1) es ≡ take i es ++ (e ∷ [])
  pub left : drop i es ≡ e ∷ drop (i + 1) es

pub next_entry : (es : List Entry) (i : ℕ) (e : Entry) → Some e ≡ entry_in es (i + 1) → Next es i e
next_entry es i e is =
    let at : slice_get es i ≡ Some e = sym (is ∙ cond-false _ _ _ (ne_eqb (i + 1) 0 (λ z. omega arith)) ∙ ap (slice_get es) (omega arith)) in
    let less : i < length es = nth_some es i e at in
    let same : get_or es i e ≡ e = some_same _ _ (sym (slice_get-get_or es i e less) ∙ at) in
    record {
      within = less;
      long = length-take-le i es (omega arith);
      front = take_more es i e less ∙ ap (λ x. take i es ++ (x ∷ [])) same;
      left = drop_more es i e less ∙ ap (λ x. x ∷ drop (i + 1) es) same;
    }
  where
    nth_some : (xs : List Entry) (k : ℕ) (x : Entry) → slice_get xs k ≡ Some x → k < length xs
    nth_some xs k x at =
        elim (cases_lt k (length xs)) [
          | inl less ↦ less
          | inr past ↦ absurd (let none = nth_past xs k past in let no : ◌≡◌ {A = ℕ} 0 1 = cc in omega arith)
        ]

    some_same : (x y : Entry) → Some x ≡ Some y → x ≡ y
    some_same x y h = cc

-- an entry among the first with their numbers, by its place
pub numbered_at : (count : ℕ) (es : List Entry) (i : ℕ) (x : NumberedEntry) → i < length (take count (numbered_from 0 es)) → x ≡ get_or (take count (numbered_from 0 es)) i x → (x.number ≡ i + 1) × (Some x.entry ≡ entry_in es (i + 1)) × (i < count)
numbered_at count es i x within is =
    let at = from count 0 es i within is in
    (omega (arith, at.0), at.1 ∙ sym (cond-false _ _ _ (ne_eqb (i + 1) 0 (λ z. omega arith)) ∙ ap (slice_get es) (omega arith)), at.2)
  where
    from : (k n : ℕ) (xs : List Entry) (j : ℕ) → j < length (take k (numbered_from n xs)) → x ≡ get_or (take k (numbered_from n xs)) j x → (x.number ≡ n + j + 1) × (Some x.entry ≡ slice_get xs j) × (j < k)
    from zero n xs j h at = absurd (omega arith)
    from (suc k) n [] j h at = absurd (omega arith)
    from (suc k) n (e ∷ xs) zero h at = (ap (λ y. y.number) at ∙ omega arith, ap (λ y. Some y.entry) at, omega arith)
    from (suc k) n (e ∷ xs) (suc j) h at = let rest = from k (n + 1) xs j (omega arith) at in (omega (arith, rest.0), rest.1, omega (arith, rest.2))

-- past the last entry there is none more
pub no_next : (es : List Entry) (i : ℕ) → None ≡ entry_in es (i + 1) → length es ≤ i
no_next es i is =
    elim (cases_lt i (length es)) [
      | inl less ↦ absurd (some_not_none es i less (is ∙ cond-false _ _ _ (ne_eqb (i + 1) 0 (λ z. omega arith)) ∙ ap (slice_get es) (omega arith)))
      | inr past ↦ past
    ]
  where
    some_not_none : (xs : List Entry) (k : ℕ) → k < length xs → None ≡ slice_get xs k → ⊥
    some_not_none [] k h at = omega arith
    some_not_none (x ∷ xs) zero h at = let no : ◌≡◌ {A = ℕ} 0 1 = cc in omega arith
    some_not_none (x ∷ xs) (suc k) h at = some_not_none xs k (omega arith) at

-- the entries with their numbers: as many as there are, and as many of them booked by a day
pub length-numbered_from : (n : ℕ) (es : List Entry) → length (numbered_from n es) ≡ length es
length-numbered_from n [] = refl
length-numbered_from n (e ∷ es) = ap suc (length-numbered_from (n + 1) es)

pub booked_listed : (day : Day) (es : List Entry) → length (filter (λ x. is_booked_by day x.entry) (numbered_from 0 es)) ≡ booked_by day es
booked_listed day es = filtered 0 es ∙ length-filter (is_booked_by day) es
  where
    filtered : (n : ℕ) (xs : List Entry) → length (filter (λ x. is_booked_by day x.entry) (numbered_from n xs)) ≡ length (filter (is_booked_by day) xs)
    filtered n [] = refl
    filtered n (e ∷ xs) =
        elim (cases_Bool (is_booked_by day e)) [
          | inl known ↦ ap length (cond-true _ _ _ known) ∙ ap suc (filtered (n + 1) xs) ∙ sym (ap length (cond-true _ _ _ known))
          | inr other ↦ ap length (cond-false _ _ _ other) ∙ filtered (n + 1) xs ∙ sym (ap length (cond-false _ _ _ other))
        ]
