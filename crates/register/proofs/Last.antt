-- The last entry of a claim among the first n, over any function that tells the claim of an entry's number. Assumes nothing.
use Rattle.std.proofs.Common.{◌≡◌, ℕ, zero, suc, ◌+◌, ◌-◌, ◌<◌, ◌≤◌, cond, eqb, ◌⊎◌, sym, refl, ap, ◌∙◌, inl, inr, add-one, arith}
use Rattle.std.proofs.lemmas.Bool.{eq-eqb, ne_eqb, cond-true, cond-false, cases_eq, cases_order}
use Rattle.register.specs.Pages.{last_of}

module _ (f : ℕ → ℕ) (c : ℕ) where
  last_hit : (n : ℕ) → f (suc n) ≡ c → last_of f c (suc n) ≡ suc n
  last_hit n is = cond-true (eqb (f (suc n)) c) (suc n) (last_of f c n) (eq-eqb (f (suc n)) c is)

  last_miss : (n : ℕ) → (f (suc n) ≡ c → ⊥) → last_of f c (suc n) ≡ last_of f c n
  last_miss n other = cond-false (eqb (f (suc n)) c) (suc n) (last_of f c n) (ne_eqb (f (suc n)) c other)

  pub last_le : (n : ℕ) → last_of f c n ≤ n
  last_le zero = omega arith
  last_le (suc n) =
      elim (cases_eq (f (suc n)) c) [ inl is ↦ omega (arith, last_hit n is) | inr other ↦ omega (arith, last_miss n other, last_le n) ]

  pub last_is : (n : ℕ) → 0 < last_of f c n → f (last_of f c n) ≡ c
  last_is zero h = absurd (omega arith)
  last_is (suc n) h =
      elim (cases_eq (f (suc n)) c) [
        | inl is ↦ ap f (last_hit n is) ∙ is
        | inr other ↦ ap f (last_miss n other) ∙ last_is n (omega (arith, last_miss n other))
      ]

  pub last_ge : (n j : ℕ) → 1 ≤ j → j ≤ n → f j ≡ c → j ≤ last_of f c n
  last_ge zero j one within is = omega arith
  last_ge (suc n) j one within is =
      elim (cases_eq (f (suc n)) c) [
        | inl hit ↦ omega (arith, last_hit n hit)
        | inr other ↦
            elim (cases_eq j (suc n)) [
              | inl same ↦ absurd (other (ap f (sym same) ∙ is))
              | inr less ↦ omega (arith, last_miss n other, last_ge n j one (omega arith) is)
            ]
      ]

  -- after the entry cur of the claim, or from the start where cur is 0, there is a next one, if cur is not the last
  pub next_after : (n cur : ℕ) → ((cur ≡ 0) ⊎ (f cur ≡ c)) → cur < last_of f c n → (k : ℕ) × (cur < k) × (k ≤ n) × (f k ≡ c) × (last_of f c (k - 1) ≡ cur)
  next_after zero cur from more = absurd (omega arith)
  next_after (suc n) cur from more =
      elim (cases_eq (f (suc n)) c) [
        | inl hit ↦
            elim (cases_order (last_of f c n) cur) [
              | inl same ↦ (suc n, omega (arith, last_hit n hit), omega arith, hit, ap (last_of f c) (omega arith) ∙ same)
              | inr (inl less) ↦
                  absurd
                  (elim from [
                    | inl none ↦ omega arith
                    | inr is ↦ omega (arith, last_hit n hit, last_ge n cur (omega arith) (omega (arith, last_hit n hit)) is)
                  ])
              | inr (inr later) ↦
                  let (k, a, b, h, e) = next_after n cur from later in
                  (k, a, omega arith, h, e)
            ]
        | inr other ↦
            let r = next_after n cur from (omega (arith, last_miss n other)) in
            (r.0, r.1, omega (arith, r.2), r.3, r.4)
      ]

  pub last_more : (n : ℕ) → last_of f c (n + 1) ≡ cond (eqb (f (n + 1)) c) (n + 1) (last_of f c n)
  last_more n = rw add-one

-- the function matters only at the numbers that are looked at
pub last_same : (f g : ℕ → ℕ) (c n : ℕ) → ((j : ℕ) → 1 ≤ j → j ≤ n → f j ≡ g j) → last_of f c n ≡ last_of g c n
last_same f g c zero same = refl
last_same f g c (suc n) same =
    let before = last_same f g c n (λ j one within. same j one (omega arith)) in
    let here = same (suc n) (omega arith) (omega arith) in
    simp (here, before)
