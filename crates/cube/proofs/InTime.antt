-- A triangle valued at a day on or before which all its entries are booked is the triangle without a value day, if the days of
-- each entry are on or before its booking day. Assumes nothing.
use Rattle.std.proofs.Common.{◌≡◌, ℕ, suc, ◌+◌, ◌-◌, ◌≤◌, Bool, true, false, cond, eqb, List, [], ◌∷◌, ◌++◌, length, IfSome, Some, None, Option, sym, refl, ap, ◌∙◌, subst, inl, inr, arith}
use Rattle.std.proofs.lemmas.List.{length_push}
use Rattle.std.proofs.lemmas.Bool.{cases_eq, cond-false, cond-true, le-leb, ne_eqb}
use Rattle.std.specs.List.{slice_get}
use Rattle.values.specs.Cohorts.{Meaning}
use Rattle.values.specs.declared.claim_days.ClaimDays.{ClaimDays}
use Rattle.values.specs.declared.day.Day.{Day}
use Rattle.register.specs.Entries.{claim_days_in, days_after, days_from, entry_in, is_opening, kind_in, stands_in}
use Rattle.register.specs.declared.entry.Content.{Content}
use Rattle.register.specs.declared.entry.Content.TheVariants as content
use Rattle.register.specs.declared.entry.Entry.{Entry}
use Rattle.register.specs.declared.kind.MovementKind.{MovementKind}
use Rattle.cube.specs.declared.terms.Direction.TheVariants.{Added}
use Rattle.cube.specs.Brings.{count_under, movement_at, standing_part, terms_at, terms_of, terms_shares, timed, under_days}
use Rattle.cube.specs.Sheets.{Share}
use Rattle.cube.specs.Triangles.{triangle, triangle_from, triangle_part}
use Rattle.cube.proofs.Law.{entry_within}
use Rattle.cube.proofs.OneMore.{entry_new, entry_old}

-- the days of an entry are on or before a day: the report day of claim days, the effective day of a movement
abbrev pub days_by : Content → Day → Type 0
days_by (content.Opening o) day = o.report.number ≤ day.number
days_by (content.Payment p) day = p.effective.number ≤ day.number
days_by (content.ReserveChange r) day = r.effective.number ≤ day.number
days_by (content.Correction k) day = k.effective.number ≤ day.number
days_by (content.Void v) day = Unit {0}
days_by (content.Redating d) day = d.report.number ≤ day.number

-- the days of each entry are on or before its booking day
abbrev pub Timely : List Entry → Type 0
Timely es = (n : ℕ) (x : Entry) → entry_in es n ≡ Some x → days_by x.content x.booked

-- one entry more
pub timely_more : (es : List Entry) (e : Entry) → Timely es → days_by e.content e.booked → Timely (es ++ (e ∷ []))
timely_more es e timely by n x at =
    let within = entry_within (es ++ (e ∷ [])) n x at in
    let long = length_push es e in
    elim (cases_eq n (length es + 1)) [
      | inl same ↦
          let one : e ≡ x = let both : Some x ≡ Some e = sym at ∙ ap (entry_in (es ++ (e ∷ []))) same ∙ entry_new es e in cc in
          subst (λ y. days_by y.content y.booked) one by
      | inr other ↦ timely n x (sym (entry_old es e n (omega (arith, within.1))) ∙ at)
    ]

-- what is on or before a day is on or before each later one
by_later : (x : Content) (booked day : Day) → booked.number ≤ day.number → days_by x booked → days_by x day
by_later (content.Opening o) booked day h by = omega arith
by_later (content.Payment p) booked day h by = omega arith
by_later (content.ReserveChange r) booked day h by = omega arith
by_later (content.Correction k) booked day h by = omega arith
by_later (content.Void v) booked day h by = tt
by_later (content.Redating d) booked day h by = omega arith

entry_nth : (es : List Entry) (i : ℕ) → entry_in es (i + 1) ≡ slice_get es i
entry_nth es i = let number : i + 1 - 1 ≡ i = omega arith in cond-false _ _ _ (ne_eqb (i + 1) 0 (λ z. omega arith)) ∙ ap (slice_get es) number

module _ (day : Day) where
  -- the report day of claim days, if there are any, is on or before the day
  abbrev Reported : Option ClaimDays → Type 0
  Reported o = IfSome o (λ days. days.report.number ≤ day.number)

  reported_after : (before : Option ClaimDays) (x : Content) → Reported before → days_by x day → Reported (days_after before x)
  reported_after before (content.Opening o) was by = by
  reported_after before (content.Payment p) was by = was
  reported_after before (content.ReserveChange r) was by = was
  reported_after before (content.Correction k) was by = was
  reported_after before (content.Void v) was by = was
  reported_after before (content.Redating d) was by = by

  reported_cond : (b : Bool) (x y : Option ClaimDays) → Reported x → Reported y → Reported (cond b x y)
  reported_cond true x y this other = this
  reported_cond false x y this other = other

  reported_from : (before : Option ClaimDays) (es : List Entry) (claim : ℕ) → Reported before → ((i : ℕ) (x : Entry) → slice_get es i ≡ Some x → days_by x.content day) → Reported (days_from before es claim)
  reported_from before [] claim was by = was
  reported_from before (e ∷ es) claim was by =
      reported_from (cond (eqb e.claim claim) (days_after before e.content) before) es claim
      (reported_cond (eqb e.claim claim) (days_after before e.content) before (reported_after before e.content was (by 0 e refl)) was)
      (λ i x at. by (suc i) x at)

  module _ (m : Meaning) where
    -- nothing in time is left out by the value day: of some shares, of a movement, of the movement with a number
    timed_all : (other : Day) (shares : List Share) → other.number ≤ day.number → timed (Some day) other shares ≡ shares
    timed_all other shares h = cond-true _ _ _ (le-leb other.number day.number h)

    terms_all : (days : ClaimDays) (o : Option MovementKind) (x : Content) → days_by x day → terms_shares m (Some day) days Added o (terms_of x) ≡ terms_shares m None days Added o (terms_of x)
    terms_all days None x by = refl
    terms_all days (Some kind) (content.Opening o) by = refl
    terms_all days (Some kind) (content.Payment p) by = timed_all p.effective _ by
    terms_all days (Some kind) (content.ReserveChange r) by = timed_all r.effective _ by
    terms_all days (Some kind) (content.Correction k) by = timed_all k.effective _ by
    terms_all days (Some kind) (content.Void v) by = refl
    terms_all days (Some kind) (content.Redating d) by = refl

    at_all : (days : ClaimDays) (o : Option MovementKind) (e : Option Entry) → ((x : Entry) → e ≡ Some x → days_by x.content day) → terms_shares m (Some day) days Added o (terms_at e) ≡ terms_shares m None days Added o (terms_at e)
    at_all days None None by = refl
    at_all days (Some kind) None by = refl
    at_all days o (Some x) by = terms_all days o x.content (by x refl)

    module _ (es : List Entry) (by : (n : ℕ) (x : Entry) → entry_in es n ≡ Some x → days_by x.content day) where
      -- the claim days in force are those of some entry
      reported : (claim : ℕ) → Reported (claim_days_in es claim)
      reported claim = reported_from None es claim tt (λ i x at. by (i + 1) x (entry_nth es i ∙ at))

      -- of an entry's part, under any claim days in time
      under_all : (o : Option ClaimDays) (n : ℕ) (e : Entry) → Reported o → under_days m (Some day) o (λ days. standing_part m (Some day) es days Added n e) ≡ under_days m None o (λ days. standing_part m None es days Added n e)
      under_all None n e h = refl
      under_all (Some days) n e h =
          ap (λ q. cond (is_opening e) q (cond (stands_in es n) (movement_at m (Some day) es days Added n) [])) (timed_all days.report _ h)
          ∙ ap (λ q. cond (is_opening e) (count_under m None days Added) (cond (stands_in es n) q [])) (at_all days (kind_in es n) (entry_in es n) (by n))

      from_all : (n : ℕ) (rest : List Entry) → triangle_from m (Some day) es n rest ≡ triangle_from m None es n rest
      from_all n [] = refl
      from_all n (e ∷ rest) =
          ap (λ q. q ++ triangle_from m (Some day) es (n + 1) rest) (under_all (claim_days_in es e.claim) (n + 1) e (reported e.claim))
          ∙ ap (λ q. triangle_part m None es (n + 1) e ++ q) (from_all (n + 1) rest)

-- the triangle valued at a day on or before which all is booked
pub in_time_lem : (m : Meaning) (day : Day) (es : List Entry) → Timely es → ((n : ℕ) (x : Entry) → entry_in es n ≡ Some x → x.booked.number ≤ day.number) → triangle m (Some day) es ≡ triangle m None es
in_time_lem m day es timely booked = from_all day m es (λ n x at. by_later x.content x.booked day (booked n x at) (timely n x at)) 0 es
