-- The triangle of a list with one more entry is the triangle before plus what the entry brings, in every cell, for every value
-- day and for none. Assumes nothing.
use Rattle.std.proofs.Common.{◌≡◌, ℕ, ◌+◌, ◌-◌, ◌<◌, ◌≤◌, Bool, true, false, cond, not, ◌&&◌, eqb, List, [], ◌∷◌, ◌++◌, length, get_or, drop, ℤ, pos, ◌+ℤ◌, neg_ℤ, Some, None, Option, sym, refl, ap, ◌∙◌, inl, inr, arith}
use lib.IntN.{+ℤ_idl, +ℤ_idr}
use Rattle.std.proofs.lemmas.Option.{slice_get-get_or, slice_get_past}
use Rattle.std.proofs.lemmas.Int.{ints}
use Rattle.std.proofs.lemmas.Bool.{and_parts, cases_Bool, cases_eq, cases_lt, false≢true, cond-true, cond-false, eq-eqb, eqb-true, eqb-false, ne_eqb}
use Rattle.values.specs.Cohorts.{Meaning}
use Rattle.values.specs.declared.claim_days.ClaimDays.{ClaimDays}
use Rattle.values.specs.declared.day.Day.{Day}
use Rattle.register.specs.Entries.{claim_days_in, entry_in, is_movement, is_number, is_opening, kind_in, kind_of, moves, named_by, opens, stands_before, stands_in}
use Rattle.register.specs.declared.entry.Content.{Content}
use Rattle.register.specs.declared.entry.Content.TheVariants as content
use Rattle.register.specs.declared.entry.Correction as the_correction
use Rattle.register.specs.declared.entry.Entry.{Entry}
use Rattle.register.specs.declared.entry.Terms.{Terms}
use Rattle.register.specs.declared.entry.Void as the_void
use Rattle.register.specs.declared.kind.MovementKind.TheVariants as kind
use Rattle.cube.specs.declared.terms.Direction.{Direction}
use Rattle.cube.specs.declared.terms.Direction.TheVariants.{Added, TakenOff}
use Rattle.cube.specs.Brings.{brings, claim_part, claim_part_from, correction_shares, count_under, movement_at, standing_part, terms_at, terms_of, terms_shares, under_days}
use Rattle.cube.specs.Sheets.{Share}
use Rattle.cube.specs.Triangles.{sum_at, triangle, triangle_part}
use Rattle.cube.proofs.OneMore.{NamesBack, days_new, entry_new, entry_old, kind_new, kind_old, stands_new, stands_old}
use Rattle.cube.proofs.Sums.{at_neg, over_add, over_append, over_one, over_same, over_zero, part_neg, sum_append, sum_over, triangle_sum}

pub entry_at : (es : List Entry) (i : ℕ) (d : Entry) → i < length es → entry_in es (0 + i + 1) ≡ Some (get_or es i d)
entry_at es i d h =
    let at : 0 + i + 1 - 1 ≡ i = omega arith in
    cond-false _ _ _ (ne_eqb (0 + i + 1) 0 (λ z. omega arith)) ∙ slice_get-get_or es (0 + i + 1 - 1) d (omega arith) ∙ ap (λ j. Some (get_or es j d)) at

cond_same : {X : Type 0} (b : Bool) (x : X) → cond b x x ≡ x
cond_same true x = refl
cond_same false x = refl

pub entry_within : (es : List Entry) (n : ℕ) (x : Entry) → entry_in es n ≡ Some x → (1 ≤ n) × (n ≤ length es)
entry_within es n x is =
    elim (cases_eq n 0) [
      | inl none ↦ absurd (let at : None ≡ Some x = sym (cond-true _ _ _ (eq-eqb n 0 none)) ∙ is in let z : ◌≡◌ {A = ℕ} 0 1 = cc in omega arith)
      | inr some ↦
          elim (cases_lt (n - 1) (length es)) [
            | inl within ↦ (omega arith, omega arith)
            | inr past ↦
                absurd
                (let at : None ≡ Some x = sym (cond-false _ _ _ (ne_eqb n 0 some) ∙ slice_get_past es (n - 1) past) ∙ is in
                let z : ◌≡◌ {A = ℕ} 0 1 = cc in omega arith)
          ]
    ]

-- a movement is no opening
moves_not : (x : Content) → moves x ≡ true → opens x ≡ false
moves_not (content.Opening o) h = absurd (false≢true h)
moves_not (content.Payment p) h = refl
moves_not (content.ReserveChange r) h = refl
moves_not (content.Correction c) h = refl
moves_not (content.Void v) h = refl
moves_not (content.Redating d) h = refl

not_opening : (es : List Entry) (n : ℕ) (x : Entry) → entry_in es n ≡ Some x → stands_in es n ≡ true → is_opening x ≡ false
not_opening es n x is stands = moves_not x.content (and_parts (is_movement x) _ (sym (ap (stands_before (drop n es) n) is) ∙ stands)).0

and_false : (b : Bool) → (b && false) ≡ false
and_false true = refl
and_false false = refl

and_true : (b : Bool) → (b && true) ≡ b
and_true true = refl
and_true false = refl

module _ (m : Meaning) (valued : Option Day) (k : ℕ) (es : List Entry) (back : NamesBack es) (e : Entry) where
  abbrev more : List Entry
  more = es ++ (e ∷ [])

  -- a cell of the part of an entry, before and after
  abbrev old : ℕ → Entry → ℤ
  old n x = sum_at k (triangle_part m valued es n x)

  abbrev new : ℕ → Entry → ℤ
  new n x = sum_at k (triangle_part m valued more n x)

  movement_old : (n : ℕ) (days : ClaimDays) → n ≤ length es → movement_at m valued more days Added n ≡ movement_at m valued es days Added n
  movement_old n days h =
      ap (λ o. terms_shares m valued days Added (kind_in more n) (terms_at o)) (entry_old es e n h)
      ∙ ap (λ q. terms_shares m valued days Added q (terms_at (entry_in es n))) (kind_old es e back n h)

  -- an entry whose standing and claim days stay has what it had
  part_old : (n : ℕ) (x : Entry) (days : ClaimDays) → n ≤ length es → stands_in more n ≡ stands_in es n → standing_part m valued more days Added n x ≡ standing_part m valued es days Added n x
  part_old n x days h same =
      ap (λ b. cond (is_opening x) (count_under m valued days Added) (cond b (movement_at m valued more days Added n) [])) same
      ∙ ap (λ q. cond (is_opening x) (count_under m valued days Added) (cond (stands_in es n) q [])) (movement_old n days h)

  -- under any claim days
  under_old : (o : Option ClaimDays) (n : ℕ) (x : Entry) → n ≤ length es → stands_in more n ≡ stands_in es n → under_days m valued o (λ days. standing_part m valued more days Added n x) ≡ under_days m valued o (λ days. standing_part m valued es days Added n x)
  under_old None n x h same = refl
  under_old (Some days) n x h same = part_old n x days h same

  same_old : (n : ℕ) (x : Entry) → n ≤ length es → stands_in more n ≡ stands_in es n → claim_days_in more x.claim ≡ claim_days_in es x.claim → new n x ≡ old n x
  same_old n x h stands days =
      ap (λ o. sum_at k (under_days m valued o (λ d. standing_part m valued more d Added n x))) days ∙ ap (sum_at k) (under_old (claim_days_in es x.claim) n x h stands)

  -- an entry that names none leaves the standing of others
  stands_kept : (n : ℕ) (x : Entry) → n ≤ length es → entry_in es n ≡ Some x → (eqb e.claim x.claim && is_number (named_by e) n) ≡ false → stands_in more n ≡ stands_in es n
  stands_kept n x h is none = stands_old es e n x h is ∙ ap (λ b. stands_in es n && not b) none ∙ and_true (stands_in es n)

  -- the sum over all entries, split at the new one
  split : sum_at k (triangle m valued more) ≡ sum_over new 0 es +ℤ new (length es + 1) e
  split =
      let at : 0 + length es + 1 ≡ length es + 1 = omega arith in
      triangle_sum k m valued more 0 more ∙ over_append new 0 es e ∙ ap (λ n. sum_over new 0 es +ℤ new n e) at

  -- where each old part changes by a difference
  pub by_change : (d : Entry) (change : ℕ → Entry → ℤ) → ((i : ℕ) → i < length es → new (0 + i + 1) (get_or es i d) ≡ old (0 + i + 1) (get_or es i d) +ℤ change (0 + i + 1) (get_or es i d)) → sum_over change 0 es +ℤ new (length es + 1) e ≡ sum_at k (brings m valued es e) → sum_at k (triangle m valued more) ≡ sum_at k (triangle m valued es) +ℤ sum_at k (brings m valued es e)
  by_change d change each rest =
      let all = over_same new (λ j x. old j x +ℤ change j x) 0 es d each ∙ over_add old change 0 es in
      let before = triangle_sum k m valued es 0 es in
      omega (arith, ints, split, all, before, rest)

-- which entries can follow a list, as far as the triangle is concerned
abbrev pub Follows : List Entry → (claim : ℕ) → Content → Type 0
Follows es claim (content.Opening o) = (n : ℕ) (x : Entry) → entry_in es n ≡ Some x → x.claim ≡ claim → ⊥
Follows es claim (content.Payment p) = (days : ClaimDays) × (claim_days_in es claim ≡ Some days)
Follows es claim (content.ReserveChange r) = (days : ClaimDays) × (claim_days_in es claim ≡ Some days)
Follows es claim (content.Correction c) = (days : ClaimDays) × (x : Entry) × (claim_days_in es claim ≡ Some days) × (entry_in es c.names ≡ Some x) × (x.claim ≡ claim) × (stands_in es c.names ≡ true)
Follows es claim (content.Void v) = (days : ClaimDays) × (x : Entry) × (claim_days_in es claim ≡ Some days) × (entry_in es v.names ≡ Some x) × (x.claim ≡ claim) × (stands_in es v.names ≡ true)
Follows es claim (content.Redating d) = (days : ClaimDays) × (claim_days_in es claim ≡ Some days)

module _ (m : Meaning) (valued : Option Day) (k : ℕ) (es : List Entry) (back : NamesBack es) (booked : Day) (claim : ℕ) where
  abbrev entry : Content → Entry
  entry x = record { booked = booked; claim = claim; content = x }

  abbrev Holds : Content → Type 0
  Holds x = sum_at k (triangle m valued (es ++ (entry x ∷ []))) ≡ sum_at k (triangle m valued es) +ℤ sum_at k (brings m valued es (entry x))

  -- a new entry that alters neither standing nor claim days of the old ones
  quiet : (x : Content) → ((n : ℕ) (y : Entry) → entry_in es n ≡ Some y → claim_days_in (es ++ (entry x ∷ [])) y.claim ≡ claim_days_in es y.claim) → named_by (entry x) ≡ None → sum_at k (triangle_part m valued (es ++ (entry x ∷ [])) (length es + 1) (entry x)) ≡ sum_at k (brings m valued es (entry x)) → Holds x
  quiet x days none here =
      by_change m valued k es back (entry x) (entry x) (λ _ _. pos 0)
      (λ i h.
      let n : ℕ = 0 + i + 1 in
      let y : Entry = get_or es i (entry x) in
      let at : entry_in es n ≡ Some y = entry_at es i (entry x) h in
      let free : (eqb claim y.claim && is_number (named_by (entry x)) n) ≡ false = ap (λ o. eqb claim y.claim && is_number o n) none ∙ and_false (eqb claim y.claim) in
      same_old m valued k es back (entry x) n y (omega arith) (stands_kept m valued k es back (entry x) n y (omega arith) at free) (days n y at) ∙ sym (+ℤ_idr _))
      (ap (λ z. z +ℤ sum_at k (triangle_part m valued (es ++ (entry x ∷ [])) (length es + 1) (entry x))) (over_zero 0 es) ∙ +ℤ_idl _ ∙ here)

  -- the part of a new movement: it stands
  movement_new : (x : Content) (days : ClaimDays) → is_opening (entry x) ≡ false → is_movement (entry x) ≡ true → claim_days_in (es ++ (entry x ∷ [])) claim ≡ Some days → ((c : the_correction.Correction) → x ≡ content.Correction c → c.names ≤ length es) → triangle_part m valued (es ++ (entry x ∷ [])) (length es + 1) (entry x) ≡ terms_shares m valued days Added (kind_of x (kind_in es)) (terms_of x)
  movement_new x days shut moves is named =
      let more : List Entry = es ++ (entry x ∷ []) in
      ap (λ o. under_days m valued o (λ d. standing_part m valued more d Added (length es + 1) (entry x))) is
      ∙ cond-false _ _ _ shut
      ∙ cond-true _ _ _ (stands_new es (entry x) ∙ moves)
      ∙ ap (λ o. terms_shares m valued days Added (kind_in more (length es + 1)) (terms_at o)) (entry_new es (entry x))
      ∙ ap (λ q. terms_shares m valued days Added q (terms_of x)) (kind_new es (entry x) back named)

  law_payment : (p : Terms) → Follows es claim (content.Payment p) → Holds (content.Payment p)
  law_payment p (days, is) =
      let kept : (c : ℕ) → claim_days_in (es ++ (entry (content.Payment p) ∷ [])) c ≡ claim_days_in es c = λ c. days_new es (entry (content.Payment p)) c ∙ cond_same (eqb claim c) (claim_days_in es c) in
      quiet (content.Payment p) (λ n y at. kept y.claim) refl
      (ap (sum_at k) (movement_new (content.Payment p) days refl refl (kept claim ∙ is) (λ c no. absurd (let z : ◌≡◌ {A = ℕ} 0 1 = cc in omega arith)))
      ∙ ap (λ o. sum_at k (under_days m valued o (λ d. terms_shares m valued d Added (Some kind.Paid) (terms_of (content.Payment p))))) (sym is))

  law_reserve : (r : Terms) → Follows es claim (content.ReserveChange r) → Holds (content.ReserveChange r)
  law_reserve r (days, is) =
      let kept : (c : ℕ) → claim_days_in (es ++ (entry (content.ReserveChange r) ∷ [])) c ≡ claim_days_in es c = λ c. days_new es (entry (content.ReserveChange r)) c ∙ cond_same (eqb claim c) (claim_days_in es c) in
      quiet (content.ReserveChange r) (λ n y at. kept y.claim) refl
      (ap (sum_at k) (movement_new (content.ReserveChange r) days refl refl (kept claim ∙ is) (λ c no. absurd (let z : ◌≡◌ {A = ℕ} 0 1 = cc in omega arith)))
      ∙ ap (λ o. sum_at k (under_days m valued o (λ d. terms_shares m valued d Added (Some kind.Reserved) (terms_of (content.ReserveChange r))))) (sym is))

  law_opening : (o : ClaimDays) → Follows es claim (content.Opening o) → Holds (content.Opening o)
  law_opening o fresh =
      let more : List Entry = es ++ (entry (content.Opening o) ∷ []) in
      let here : claim_days_in more claim ≡ Some o = days_new es (entry (content.Opening o)) claim ∙ cond-true _ _ _ (eq-eqb claim claim refl) in
      quiet (content.Opening o) (λ n y at. days_new es (entry (content.Opening o)) y.claim ∙ cond-false _ _ _ (ne_eqb claim y.claim (λ is. fresh n y at (sym is)))) refl
      (ap (λ q. sum_at k (under_days m valued q (λ d. standing_part m valued more d Added (length es + 1) (entry (content.Opening o))))) here)

  -- a void or a correction: the movement t that it names stands no longer, and all else stays
  module _ (x : Content) (t : ℕ) (y : Entry) (days : ClaimDays) (names : named_by (entry x) ≡ Some t) (calm : (c : ℕ) → claim_days_in (es ++ (entry x ∷ [])) c ≡ claim_days_in es c) (is : claim_days_in es claim ≡ Some days) (at : entry_in es t ≡ Some y) (of : y.claim ≡ claim) (standing : stands_in es t ≡ true) where
    abbrev longer : List Entry
    longer = es ++ (entry x ∷ [])

    -- t is the number of an old entry
    found : (1 ≤ t) × (t ≤ length es)
    found = entry_within es t y at

    gone : stands_in longer t ≡ false
    gone =
        stands_old es (entry x) t y found.1 at
        ∙ ap (λ b. b && not (eqb claim y.claim && is_number (named_by (entry x)) t)) standing
        ∙ ap (λ b. not (b && is_number (named_by (entry x)) t)) (eq-eqb claim y.claim (sym of))
        ∙ ap (λ o. not (is_number o t)) names
        ∙ ap not (eq-eqb t t refl)

    -- what t had
    had : sum_at k (triangle_part m valued es t y) ≡ sum_at k (movement_at m valued es days Added t)
    had =
        ap (λ o. sum_at k (under_days m valued o (λ d. standing_part m valued es d Added t y))) (ap (claim_days_in es) of ∙ is)
        ∙ ap (sum_at k) (cond-false _ _ _ (not_opening es t y at standing) ∙ cond-true _ _ _ standing)

    -- what it has now
    has : sum_at k (triangle_part m valued longer t y) ≡ pos 0
    has =
        ap (λ o. sum_at k (under_days m valued o (λ d. standing_part m valued longer d Added t y))) (calm y.claim ∙ ap (claim_days_in es) of ∙ is)
        ∙ ap (sum_at k) (cond-false _ _ _ (not_opening es t y at standing) ∙ cond-false _ _ _ gone)

    abbrev change : ℕ → Entry → ℤ
    change n z = cond (eqb n t) (neg_ℤ (sum_at k (triangle_part m valued es n z))) (pos 0)

    each : (i : ℕ) → i < length es → sum_at k (triangle_part m valued longer (0 + i + 1) (get_or es i y)) ≡ sum_at k (triangle_part m valued es (0 + i + 1) (get_or es i y)) +ℤ change (0 + i + 1) (get_or es i y)
    each i h =
        let n : ℕ = 0 + i + 1 in
        let z : Entry = get_or es i y in
        let here : entry_in es n ≡ Some z = entry_at es i y h in
        elim (cases_eq n t) [
          | inl same ↦
              let one : z ≡ y = let both : Some z ≡ Some y = sym here ∙ ap (entry_in es) same ∙ at in cc in
              let off = cond-true (eqb n t) (neg_ℤ (sum_at k (triangle_part m valued es n z))) (pos 0) (eq-eqb n t same) in
              let now : sum_at k (triangle_part m valued longer n z) ≡ pos 0 = ap (λ j. sum_at k (triangle_part m valued longer j z)) same ∙ ap (λ w. sum_at k (triangle_part m valued longer t w)) one ∙ has in
              omega (arith, ints, off, now)
          | inr other ↦
              let free : (eqb claim z.claim && is_number (named_by (entry x)) n) ≡ false =
              ap (λ o. eqb claim z.claim && is_number o n) names ∙ ap (λ b. eqb claim z.claim && b) (ne_eqb t n (λ same. other (sym same))) ∙ and_false (eqb claim z.claim) in
              let kept = same_old m valued k es back (entry x) n z (omega arith) (stands_kept m valued k es back (entry x) n z (omega arith) here free) (calm z.claim) in
              let none = cond-false (eqb n t) (neg_ℤ (sum_at k (triangle_part m valued es n z))) (pos 0) (ne_eqb n t other) in
              omega (arith, ints, kept, none)
        ]

    -- all that changes is what t had
    total : sum_over change 0 es ≡ sum_at k (movement_at m valued es days TakenOff t)
    total =
        let i : ℕ = t - 1 in
        let bounds = found in
        let number : 0 + i + 1 ≡ t = omega (arith, bounds.0) in
        let read : get_or es i y ≡ y = let both : Some (get_or es i y) ≡ Some y = sym (entry_at es i y (omega (arith, bounds.0, bounds.1))) ∙ ap (entry_in es) number ∙ at in cc in
        over_one change 0 i es y (omega (arith, bounds.0, bounds.1)) (λ j z other. cond-false _ _ _ (ne_eqb j t (λ same. other (same ∙ sym number))))
        ∙ cond-true _ _ _ (eq-eqb (0 + i + 1) t number)
        ∙ ap neg_ℤ (ap (λ j. sum_at k (triangle_part m valued es j (get_or es i y))) number ∙ ap (λ w. sum_at k (triangle_part m valued es t w)) read ∙ had)
        ∙ sym (at_neg k m valued es days t)

    pub replaced : sum_at k (movement_at m valued es days TakenOff t) +ℤ sum_at k (triangle_part m valued longer (length es + 1) (entry x)) ≡ sum_at k (brings m valued es (entry x)) → Holds x
    replaced rest = by_change m valued k es back (entry x) y change each (ap (λ z. z +ℤ sum_at k (triangle_part m valued longer (length es + 1) (entry x))) total ∙ rest)

  law_void : (v : the_void.Void) → Follows es claim (content.Void v) → Holds (content.Void v)
  law_void v (days, y, is, at, of, standing) =
      let x : Content = content.Void v in
      let kept : (c : ℕ) → claim_days_in (es ++ (entry x ∷ [])) c ≡ claim_days_in es c = λ c. days_new es (entry x) c ∙ cond_same (eqb claim c) (claim_days_in es c) in
      let nothing : sum_at k (triangle_part m valued (es ++ (entry x ∷ [])) (length es + 1) (entry x)) ≡ pos 0 =
      ap (λ o. sum_at k (under_days m valued o (λ d. standing_part m valued (es ++ (entry x ∷ [])) d Added (length es + 1) (entry x)))) (kept claim ∙ is)
      ∙ ap (sum_at k) (cond-false _ _ _ (stands_new es (entry x))) in
      replaced x v.names y days refl kept is at of standing
      (ap (λ z. sum_at k (movement_at m valued es days TakenOff v.names) +ℤ z) nothing ∙ +ℤ_idr _
      ∙ ap (λ o. sum_at k (under_days m valued o (λ d. movement_at m valued es d TakenOff v.names))) (sym is))

  law_correction : (c : the_correction.Correction) → Follows es claim (content.Correction c) → Holds (content.Correction c)
  law_correction c (days, y, is, at, of, standing) =
      let x : Content = content.Correction c in
      let kept : (q : ℕ) → claim_days_in (es ++ (entry x ∷ [])) q ≡ claim_days_in es q = λ q. days_new es (entry x) q ∙ cond_same (eqb claim q) (claim_days_in es q) in
      let named : (c' : the_correction.Correction) → x ≡ content.Correction c' → c'.names ≤ length es = λ c' same. let one : c ≡ c' = cc in omega (arith, ap (λ q. q.names) one, (entry_within es c.names y at).1) in
      let fresh = ap (sum_at k) (movement_new x days refl refl (kept claim ∙ is) named) in
      replaced x c.names y days refl kept is at of standing
      (ap (λ z. sum_at k (movement_at m valued es days TakenOff c.names) +ℤ z) fresh
      ∙ sym (sum_append k (movement_at m valued es days TakenOff c.names) _)
      ∙ ap (λ o. sum_at k (under_days m valued o (λ d. correction_shares m valued es d c))) (sym is))

  -- the claim's part, cell by cell
  claim_sum : (days : ClaimDays) (sign : Direction) (n : ℕ) (rest : List Entry) → sum_at k (claim_part_from m valued es claim days sign n rest) ≡ sum_over (λ j z. cond (eqb z.claim claim) (sum_at k (standing_part m valued es days sign j z)) (pos 0)) n rest
  claim_sum days sign n [] = refl
  claim_sum days sign n (z ∷ rest) =
      sum_append k (cond (eqb z.claim claim) (standing_part m valued es days sign (n + 1) z) []) _
      ∙ ap (λ w. w +ℤ sum_at k (claim_part_from m valued es claim days sign (n + 1) rest)) (choose (eqb z.claim claim) (standing_part m valued es days sign (n + 1) z))
      ∙ ap (λ w. cond (eqb z.claim claim) (sum_at k (standing_part m valued es days sign (n + 1) z)) (pos 0) +ℤ w) (claim_sum days sign (n + 1) rest)
    where
      choose : (b : Bool) (xs : List Share) → sum_at k (cond b xs []) ≡ cond b (sum_at k xs) (pos 0)
      choose true xs = refl
      choose false xs = refl

  -- a redating: the claim's entries move from the old claim days to the new, and all else stays
  law_redating : (d : ClaimDays) → Follows es claim (content.Redating d) → Holds (content.Redating d)
  law_redating d (days, is) =
      let x : Content = content.Redating d in
      let longer : List Entry = es ++ (entry x ∷ []) in
      let now : claim_days_in longer claim ≡ Some d = days_new es (entry x) claim ∙ cond-true _ _ _ (eq-eqb claim claim refl) in
      let off : ℕ → Entry → ℤ = λ j z. cond (eqb z.claim claim) (sum_at k (standing_part m valued es days TakenOff j z)) (pos 0) in
      let on : ℕ → Entry → ℤ = λ j z. cond (eqb z.claim claim) (sum_at k (standing_part m valued es d Added j z)) (pos 0) in
      let nothing : sum_at k (triangle_part m valued longer (length es + 1) (entry x)) ≡ pos 0 =
      ap (λ o. sum_at k (under_days m valued o (λ q. standing_part m valued longer q Added (length es + 1) (entry x)))) now
      ∙ ap (sum_at k) (cond-false _ _ _ (stands_new es (entry x))) in
      let bring : sum_at k (brings m valued es (entry x)) ≡ sum_over off 0 es +ℤ sum_over on 0 es =
      ap (λ o. sum_at k (under_days m valued o (λ q. claim_part m valued es claim q TakenOff ++ claim_part m valued es claim d Added))) is
      ∙ sum_append k (claim_part m valued es claim days TakenOff) (claim_part m valued es claim d Added)
      ∙ ap (λ w. w +ℤ sum_at k (claim_part m valued es claim d Added)) (claim_sum days TakenOff 0 es)
      ∙ ap (λ w. sum_over off 0 es +ℤ w) (claim_sum d Added 0 es) in
      by_change m valued k es back (entry x) (entry x) (λ j z. off j z +ℤ on j z)
      (λ i h. redated d days is now i h)
      (omega (arith, ints, nothing, bring, over_add off on 0 es))
    where
      redated : (d : ClaimDays) (days : ClaimDays) → claim_days_in es claim ≡ Some days → claim_days_in (es ++ (entry (content.Redating d) ∷ [])) claim ≡ Some d → (i : ℕ) → i < length es
          → sum_at k (triangle_part m valued (es ++ (entry (content.Redating d) ∷ [])) (0 + i + 1) (get_or es i (entry (content.Redating d))))
          ≡ sum_at k (triangle_part m valued es (0 + i + 1) (get_or es i (entry (content.Redating d))))
          +ℤ (cond (eqb (get_or es i (entry (content.Redating d))).claim claim) (sum_at k (standing_part m valued es days TakenOff (0 + i + 1) (get_or es i (entry (content.Redating d))))) (pos 0)
          +ℤ cond (eqb (get_or es i (entry (content.Redating d))).claim claim) (sum_at k (standing_part m valued es d Added (0 + i + 1) (get_or es i (entry (content.Redating d))))) (pos 0))
      redated d days is now i h =
          let x : Content = content.Redating d in
          let longer : List Entry = es ++ (entry x ∷ []) in
          let n : ℕ = 0 + i + 1 in
          let z : Entry = get_or es i (entry x) in
          let at : entry_in es n ≡ Some z = entry_at es i (entry x) h in
          let stands = stands_kept m valued k es back (entry x) n z (omega arith) at (and_false (eqb claim z.claim)) in
          elim (cases_Bool (eqb z.claim claim)) [
            | inl ours ↦
                let same : z.claim ≡ claim = eqb-true z.claim claim ours in
                let before : sum_at k (triangle_part m valued es n z) ≡ sum_at k (standing_part m valued es days Added n z) =
                ap (λ o. sum_at k (under_days m valued o (λ q. standing_part m valued es q Added n z))) (ap (claim_days_in es) same ∙ is) in
                let after : sum_at k (triangle_part m valued longer n z) ≡ sum_at k (standing_part m valued es d Added n z) =
                ap (λ o. sum_at k (under_days m valued o (λ q. standing_part m valued longer q Added n z))) (ap (claim_days_in longer) same ∙ now)
                ∙ ap (sum_at k) (part_old m valued k es back (entry x) n z d (omega arith) stands) in
                let a = cond-true (eqb z.claim claim) (sum_at k (standing_part m valued es days TakenOff n z)) (pos 0) ours in
                let b = cond-true (eqb z.claim claim) (sum_at k (standing_part m valued es d Added n z)) (pos 0) ours in
                omega (arith, ints, before, after, a, b, part_neg k m valued es days n z)
            | inr theirs ↦
                let kept = same_old m valued k es back (entry x) n z (omega arith) stands (days_new es (entry x) z.claim ∙ cond-false _ _ _ (ne_eqb claim z.claim (λ same. eqb-false z.claim claim theirs (sym same)))) in
                let a = cond-false (eqb z.claim claim) (sum_at k (standing_part m valued es days TakenOff n z)) (pos 0) theirs in
                let b = cond-false (eqb z.claim claim) (sum_at k (standing_part m valued es d Added n z)) (pos 0) theirs in
                omega (arith, ints, kept, a, b)
          ]

  law_content : (x : Content) → Follows es claim x → Holds x
  law_content (content.Opening o) follows = law_opening o follows
  law_content (content.Payment p) follows = law_payment p follows
  law_content (content.ReserveChange r) follows = law_reserve r follows
  law_content (content.Correction c) follows = law_correction c follows
  law_content (content.Void v) follows = law_void v follows
  law_content (content.Redating d) follows = law_redating d follows

-- the law
pub law : (m : Meaning) (valued : Option Day) (k : ℕ) (es : List Entry) → NamesBack es → (e : Entry) → Follows es e.claim e.content → sum_at k (triangle m valued (es ++ (e ∷ []))) ≡ sum_at k (triangle m valued es) +ℤ sum_at k (brings m valued es e)
law m valued k es back e follows = law_content m valued k es back e.booked e.claim e.content follows
