-- No cell of a triangle passes 100,000,000,000 for each entry, either way, and so no sum of up to 65,536 entries wraps. Assumes
-- nothing.
use Rattle.std.proofs.Common.{◌≡◌, ℕ, ◌+◌, ◌*◌, ◌≤◌, Bool, true, false, cond, eqb, leb, List, [], ◌∷◌, length, ℤ, pos, ◌+ℤ◌, neg_ℤ, nat_abs, ◌≤ℤ◌, Some, None, Option, refl, arith, w64}
use Rattle.std.proofs.lemmas.Int.{ints, int_wrap_fits}
use Rattle.std.proofs.lemmas.Bool.{and_parts, eqb-true, leb-true, ne_eqb, true≢false}
use Rattle.std.specs.Int.{int_wrap}
use Rattle.values.specs.Cohorts as cohorts
use Rattle.values.specs.declared.amount.Amount.{Amount}
use Rattle.values.specs.declared.claim_days.ClaimDays.{ClaimDays}
use Rattle.values.specs.declared.day.Day.{Day}
use Rattle.register.specs.Entries.{claim_days_in, entry_in, is_opening, kind_in, stands_in}
use Rattle.register.specs.declared.entry.Entry.{Entry}
use Rattle.register.specs.declared.kind.MovementKind.{MovementKind}
use Rattle.register.specs.declared.kind.MovementKind.TheVariants as kind
use Rattle.cube.specs.declared.measure.Measure.TheVariants as measure
use Rattle.cube.specs.declared.terms.Direction.TheVariants.{Added}
use Rattle.register.specs.declared.entry.Terms.{Terms}
use Rattle.cube.specs.Brings.{count_under, in_time, movement_at, standing_part, terms_at, terms_shares, under_days}
use Rattle.cube.specs.Promises.{most_cents}
use Rattle.cube.specs.Sheets.{Share, cell_of, movement_shares}
use Rattle.cube.specs.Triangles.{sum_at, triangle, triangle_from, triangle_part}
use Rattle.cube.proofs.Sums.{sum_append}

-- the most that one entry has in a cell
abbrev most : ℕ
most = 100000000000

-- from −bound to bound
abbrev Between : ℕ → ℤ → Type 0
Between bound z = (neg_ℤ (pos bound) ≤ℤ z) × (z ≤ℤ pos bound)

between_zero : (bound : ℕ) → Between bound (pos 0)
between_zero bound = (omega (arith, ints), omega (arith, ints))

between_add : (a b : ℕ) (x y : ℤ) → Between a x → Between b y → Between (a + b) (x +ℤ y)
between_add a b x y (low, high) (low', high') = (omega (arith, ints), omega (arith, ints))

between_abs : (bound : ℕ) (z : ℤ) → nat_abs z ≤ bound → Between bound z
between_abs bound z h = (omega (arith, ints), omega (arith, ints))

amount_between : (a : Amount) → Between most a.cents
amount_between a =
    let size : ℕ = nat_abs a.cents in
    between_abs most a.cents (leb-true size most (and_parts (leb 1 size) (leb size most) a.lawful).1)

module _ (bound : ℕ) (k : ℕ) where
  between_cond : (b : Bool) (shares : List Share) → Between bound (sum_at k shares) → Between bound (sum_at k (cond b shares []))
  between_cond true shares h = h
  between_cond false shares h = between_zero bound

  -- a share alone
  one_between : (b : Bool) (z : ℤ) → Between bound z → Between bound (cond b z (pos 0) +ℤ pos 0)
  one_between true z (low, high) = (omega (arith, ints), omega (arith, ints))
  one_between false z h = between_zero bound

  -- two shares of which one at most falls into the cell
  two_between : (a b : Bool) (z : ℤ) → (a ≡ true → b ≡ false) → Between bound z → Between bound (cond a z (pos 0) +ℤ (cond b z (pos 0) +ℤ pos 0))
  two_between true true z one h = absurd (true≢false (one refl))
  two_between true false z one (low, high) = (omega (arith, ints), omega (arith, ints))
  two_between false true z one (low, high) = (omega (arith, ints), omega (arith, ints))
  two_between false false z one h = between_zero bound

module _ (m : cohorts.Meaning) (valued : Option Day) (k : ℕ) where
  movement_between : (v : MovementKind) (days : ClaimDays) (day : Day) (a : ℤ) → Between most a → Between most (sum_at k (movement_shares m v days day a))
  movement_between kind.Paid days day a h = two_between most k (eqb (cell_of m measure.Paid (m.place days day)) k) (eqb (cell_of m measure.Incurred (m.place days day)) k) a apart h
    where
      -- of a place, the cell of the paid measure is not that of the incurred one
      apart : eqb (cell_of m measure.Paid (m.place days day)) k ≡ true → eqb (cell_of m measure.Incurred (m.place days day)) k ≡ false
      apart is = ne_eqb _ k (λ same. omega (arith, eqb-true (cell_of m measure.Paid (m.place days day)) k is))
  movement_between kind.Reserved days day a h = one_between most k (eqb (cell_of m measure.Incurred (m.place days day)) k) a h

  terms_between : (days : ClaimDays) (o : Option MovementKind) (t : Option Terms) → Between most (sum_at k (terms_shares m valued days Added o t))
  terms_between days None t = between_zero most
  terms_between days (Some v) None = between_zero most
  terms_between days (Some v) (Some t) = between_cond most k (in_time valued t.effective) _ (movement_between v days t.effective t.amount.cents (amount_between t.amount))

  count_between : (days : ClaimDays) → Between most (sum_at k (count_under m valued days Added))
  count_between days =
      between_cond most k (in_time valued days.report) _
      (one_between most k (eqb (cell_of m measure.Count (m.place days days.report)) k) (pos 1) (omega (arith, ints), omega (arith, ints)))

  module _ (es : List Entry) where
    -- one entry
    part_between : (o : Option ClaimDays) (n : ℕ) (e : Entry) → Between most (sum_at k (under_days m valued o (λ days. standing_part m valued es days Added n e)))
    part_between None n e = between_zero most
    part_between (Some days) n e = choose (is_opening e)
      where
        choose : (b : Bool) → Between most (sum_at k (cond b (count_under m valued days Added) (cond (stands_in es n) (movement_at m valued es days Added n) [])))
        choose true = count_between days
        choose false = between_cond most k (stands_in es n) _ (terms_between days (kind_in es n) (terms_at (entry_in es n)))

    -- all of them
    from_between : (n : ℕ) (rest : List Entry) → Between (length rest * most) (sum_at k (triangle_from m valued es n rest))
    from_between n [] = between_zero 0
    from_between n (e ∷ rest) =
        let here = part_between (claim_days_in es e.claim) (n + 1) e in
        let both = between_add most (length rest * most) _ _ here (from_between (n + 1) rest) in
        let sum = sum_append k (triangle_part m valued es (n + 1) e) (triangle_from m valued es (n + 1) rest) in
        (omega (arith, ints, sum, both.0), omega (arith, ints, sum, both.1))

  -- no cell passes the most of each entry, for any value day and for none
  pub bounded : (es : List Entry) → (neg_ℤ (pos (length es * 100000000000)) ≤ℤ sum_at k (triangle m valued es)) × (sum_at k (triangle m valued es) ≤ℤ pos (length es * 100000000000))
  bounded es = from_between es 0 es

-- up to 65,536 entries no cell passes the largest figure
module _ (m : cohorts.Meaning) (valued : Option Day) (k : ℕ) (es : List Entry) (few : length es ≤ 65536) where
  pub within : (neg_ℤ (pos most_cents) ≤ℤ sum_at k (triangle m valued es)) × (sum_at k (triangle m valued es) ≤ℤ pos most_cents)
  within = let bounds = bounded m valued k es in (omega (arith, ints, bounds.0), omega (arith, ints, bounds.1))

  -- and so none wraps
  pub unwrapped : int_wrap w64 (sum_at k (triangle m valued es)) ≡ sum_at k (triangle m valued es)
  unwrapped = int_wrap_fits w64 (sum_at k (triangle m valued es)) (let bounds = within in omega (arith, ints, bounds.0, bounds.1))
