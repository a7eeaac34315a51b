-- Sums of shares. Assumes nothing.
use Rattle.std.proofs.Common.{◌≡◌, ℕ, zero, suc, ◌+◌, ◌<◌, Bool, true, false, cond, eqb, List, [], ◌∷◌, ◌++◌, length, get_or, ℤ, pos, ◌+ℤ◌, neg_ℤ, Some, None, Option, sym, refl, ap, ◌∙◌, arith}
use lib.IntN.{+ℤ_assoc, +ℤ_idl, +ℤ_idr, neg_ℤ-+ℤ}
use Rattle.std.proofs.lemmas.Int.{ints}
use Rattle.values.specs.Cohorts.{Meaning}
use Rattle.values.specs.declared.claim_days.ClaimDays.{ClaimDays}
use Rattle.values.specs.declared.day.Day.{Day}
use Rattle.register.specs.declared.entry.Entry.{Entry}
use Rattle.register.specs.declared.kind.MovementKind.{MovementKind}
use Rattle.register.specs.declared.kind.MovementKind.TheVariants as kind
use Rattle.cube.specs.declared.terms.Direction.TheVariants.{Added, TakenOff}
use Rattle.register.specs.declared.entry.Terms.{Terms}
use Rattle.cube.specs.Brings.{count_under, in_time, movement_at, standing_part, terms_shares}
use Rattle.cube.specs.Sheets.{Share, movement_shares}
use Rattle.cube.specs.Triangles.{sum_at, triangle_from, triangle_part}
use Rattle.register.specs.Entries.{entry_in, is_opening, kind_in, stands_in}
use Rattle.cube.specs.Brings.{terms_at}

pub sum_append : (k : ℕ) (xs ys : List Share) → sum_at k (xs ++ ys) ≡ sum_at k xs +ℤ sum_at k ys
sum_append k [] ys = sym (+ℤ_idl (sum_at k ys))
sum_append k (x ∷ xs) ys = ap (λ z. cond (eqb x.cell k) x.amount (pos 0) +ℤ z) (sum_append k xs ys) ∙ sym (+ℤ_assoc (cond (eqb x.cell k) x.amount (pos 0)) (sum_at k xs) (sum_at k ys))

-- what is taken off is the negative of what is added
cond_neg : (b : Bool) (a : ℤ) → cond b (neg_ℤ a) (pos 0) ≡ neg_ℤ (cond b a (pos 0))
cond_neg true a = refl
cond_neg false a = refl

module _ (k : ℕ) (m : Meaning) where
  movement_neg : (v : MovementKind) (days : ClaimDays) (day : Day) (a : ℤ) → sum_at k (movement_shares m v days day (neg_ℤ a)) ≡ neg_ℤ (sum_at k (movement_shares m v days day a))
  movement_neg kind.Paid days day a = simp (cond_neg, neg_ℤ-+ℤ)
  movement_neg kind.Reserved days day a = simp (cond_neg, neg_ℤ-+ℤ)

  timed_neg : (b : Bool) (xs ys : List Share) → sum_at k xs ≡ neg_ℤ (sum_at k ys) → sum_at k (cond b xs []) ≡ neg_ℤ (sum_at k (cond b ys []))
  timed_neg true xs ys is = is
  timed_neg false xs ys is = refl

  module _ (valued : Option Day) (es : List Entry) (days : ClaimDays) where
    pub terms_neg : (o : Option MovementKind) (t : Option Terms) → sum_at k (terms_shares m valued days TakenOff o t) ≡ neg_ℤ (sum_at k (terms_shares m valued days Added o t))
    terms_neg None t = refl
    terms_neg (Some v) None = refl
    terms_neg (Some v) (Some t) = timed_neg (in_time valued t.effective) _ _ (movement_neg v days t.effective t.amount.cents)

    pub at_neg : (n : ℕ) → sum_at k (movement_at m valued es days TakenOff n) ≡ neg_ℤ (sum_at k (movement_at m valued es days Added n))
    at_neg n = terms_neg (kind_in es n) (terms_at (entry_in es n))

    count_neg : sum_at k (count_under m valued days TakenOff) ≡ neg_ℤ (sum_at k (count_under m valued days Added))
    count_neg = timed_neg (in_time valued days.report) _ _ (simp (cond_neg, neg_ℤ-+ℤ))

    pub part_neg : (n : ℕ) (e : Entry) → sum_at k (standing_part m valued es days TakenOff n e) ≡ neg_ℤ (sum_at k (standing_part m valued es days Added n e))
    part_neg n e = choose (is_opening e) (stands_in es n)
      where
        choose : (a b : Bool) → sum_at k (cond a (count_under m valued days TakenOff) (cond b (movement_at m valued es days TakenOff n) [])) ≡ neg_ℤ (sum_at k (cond a (count_under m valued days Added) (cond b (movement_at m valued es days Added n) [])))
        choose true b = count_neg
        choose false true = at_neg n
        choose false false = refl

-- the sum of a function of number and entry over a list whose first entry is numbered n + 1
abbrev pub sum_over : (ℕ → Entry → ℤ) → ℕ → List Entry → ℤ
sum_over f n [] = pos 0
sum_over f n (e ∷ es) = f (n + 1) e +ℤ sum_over f (n + 1) es

pub over_append : (f : ℕ → Entry → ℤ) (n : ℕ) (es : List Entry) (e : Entry) → sum_over f n (es ++ (e ∷ [])) ≡ sum_over f n es +ℤ f (n + length es + 1) e
over_append f n [] e =
    let same : n + 1 ≡ n + 0 + 1 = omega arith in
    +ℤ_idr (f (n + 1) e) ∙ sym (+ℤ_idl (f (n + 1) e)) ∙ ap (λ k. pos 0 +ℤ f k e) same
over_append f n (x ∷ es) e =
    let same : n + 1 + length es + 1 ≡ n + suc (length es) + 1 = omega arith in
    ap (λ z. f (n + 1) x +ℤ z) (over_append f (n + 1) es e) ∙ sym (+ℤ_assoc (f (n + 1) x) (sum_over f (n + 1) es) (f (n + 1 + length es + 1) e))
    ∙ ap (λ k. f (n + 1) x +ℤ sum_over f (n + 1) es +ℤ f k e) same

-- two functions that agree at each entry
pub over_same : (f g : ℕ → Entry → ℤ) (n : ℕ) (es : List Entry) (d : Entry) → ((i : ℕ) → i < length es → f (n + i + 1) (get_or es i d) ≡ g (n + i + 1) (get_or es i d)) → sum_over f n es ≡ sum_over g n es
over_same f g n [] d same = refl
over_same f g n (e ∷ es) d same =
    let zeroth : n + 0 + 1 ≡ n + 1 = omega arith in
    let head : f (n + 1) e ≡ g (n + 1) e = sym (ap (λ k. f k e) zeroth) ∙ same 0 (omega arith) ∙ ap (λ k. g k e) zeroth in
    let tail = over_same f g (n + 1) es d
    (λ i h.
    let at : n + suc i + 1 ≡ n + 1 + i + 1 = omega arith in
    sym (ap (λ k. f k (get_or es i d)) at) ∙ same (suc i) (omega arith) ∙ ap (λ k. g k (get_or es i d)) at) in
    simp (head, tail)

-- the sum of two functions
pub over_add : (f g : ℕ → Entry → ℤ) (n : ℕ) (es : List Entry) → sum_over (λ j x. f j x +ℤ g j x) n es ≡ sum_over f n es +ℤ sum_over g n es
over_add f g n [] = refl
over_add f g n (e ∷ es) = omega (arith, ints, over_add f g (n + 1) es)

pub over_zero : (n : ℕ) (es : List Entry) → sum_over (λ _ _. pos 0) n es ≡ pos 0
over_zero n [] = refl
over_zero n (e ∷ es) = +ℤ_idl (sum_over (λ _ _. pos 0) (n + 1) es) ∙ over_zero (n + 1) es

-- a function that is 0 but at the entry numbered t
pub over_one : (f : ℕ → Entry → ℤ) (n i : ℕ) (es : List Entry) (d : Entry) → i < length es → ((j : ℕ) (x : Entry) → (j ≡ n + i + 1 → ⊥) → f j x ≡ pos 0) → sum_over f n es ≡ f (n + i + 1) (get_or es i d)
over_one f n i [] d within other = absurd (omega arith)
over_one f n zero (e ∷ es) d within other =
    let same : n + 1 ≡ n + 0 + 1 = omega arith in
    let rest = over_same f (λ _ _. pos 0) (n + 1) es d (λ i h. other (n + 1 + i + 1) (get_or es i d) (λ is. omega arith)) ∙ over_zero (n + 1) es in
    ap (λ z. f (n + 1) e +ℤ z) rest ∙ +ℤ_idr (f (n + 1) e) ∙ ap (λ k. f k e) same
over_one f n (suc i) (e ∷ es) d within other =
    let at : n + 1 + i + 1 ≡ n + suc i + 1 = omega arith in
    ap (λ z. z +ℤ sum_over f (n + 1) es) (other (n + 1) e (λ is. omega arith)) ∙ +ℤ_idl (sum_over f (n + 1) es)
    ∙ over_one f (n + 1) i es d (omega arith) (λ j x h. other j x (λ is. h (omega arith)))
    ∙ ap (λ k. f k (get_or es i d)) at

-- the triangle, cell by cell
pub triangle_sum : (k : ℕ) (m : Meaning) (valued : Option Day) (es : List Entry) (n : ℕ) (rest : List Entry) → sum_at k (triangle_from m valued es n rest) ≡ sum_over (λ j x. sum_at k (triangle_part m valued es j x)) n rest
triangle_sum k m valued es n [] = refl
triangle_sum k m valued es n (e ∷ rest) =
    sum_append k (triangle_part m valued es (n + 1) e) (triangle_from m valued es (n + 1) rest)
    ∙ ap (λ z. sum_at k (triangle_part m valued es (n + 1) e) +ℤ z) (triangle_sum k m valued es (n + 1) rest)
