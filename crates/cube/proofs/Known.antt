-- Booking days that do not fall, and the entries known on a day. Assumes nothing.
use Rattle.std.proofs.Common.{◌≡◌, ℕ, suc, ◌+◌, ◌-◌, ◌<◌, ◌≤◌, Bool, true, false, List, [], ◌∷◌, ◌++◌, length, get_or, take, Some, filter, sym, refl, ap, ◌∙◌, inl, inr, arith}
use Rattle.std.proofs.lemmas.List.Elements.{filter-append}
use Rattle.std.proofs.lemmas.List.{append-nil, length_push, take_all, take-append-le}
use Rattle.std.proofs.lemmas.List.Sums.{count_by-le-length, length-filter}
use Rattle.std.proofs.lemmas.Bool.{cases_Bool, cond-true, cond-false, le-leb, leb-true, ltb-false}
use Rattle.values.specs.declared.day.Day.{Day}
use Rattle.register.specs.Entries.{entry_in}
use Rattle.register.specs.declared.entry.Entry.{Entry}
use Rattle.cube.specs.Model.{booked_after}
use Rattle.cube.specs.Queries.{booked_by, is_booked_by, known_on}
use Rattle.cube.proofs.Law.{entry_at, entry_within}
use Rattle.cube.proofs.OneMore.{entry_new}
use Rattle.cube.proofs.Reached.{entry_split}

-- booking days do not fall
abbrev pub Ordered : List Entry → Type 0
Ordered es = (i j : ℕ) (x y : Entry) → i ≤ j → entry_in es i ≡ Some x → entry_in es j ≡ Some y → x.booked.number ≤ y.booked.number

-- none falls where the new entry is not booked before the last
pub ordered_more : (es : List Entry) (e : Entry) → Ordered es → booked_after (entry_in es (length es)) e.booked ≡ false → Ordered (es ++ (e ∷ []))
ordered_more es e ordered later i j x y less at_x at_y =
    elim (entry_split es e i x at_x) [
      | inl old_x ↦
          elim (entry_split es e j y at_y) [
            | inl old_y ↦ ordered i j x y less old_x.1 old_y.1
            | inr new_y ↦ omega (arith, last_booked old_x.1, ap (λ z. z.booked.number) new_y.1)
          ]
      | inr new_x ↦
          elim (entry_split es e j y at_y) [
            | inl old_y ↦ absurd (omega (arith, new_x.0, old_y.0))
            | inr new_y ↦ omega (arith, ap (λ z. z.booked.number) new_x.1, ap (λ z. z.booked.number) new_y.1)
          ]
    ]
  where
    last_booked : entry_in es i ≡ Some x → x.booked.number ≤ e.booked.number
    last_booked at =
        let bounds = entry_within es i x at in
        let z : Entry = get_or es (length es - 1) x in
        let number : 0 + (length es - 1) + 1 ≡ length es = omega (arith, bounds.0, bounds.1) in
        let last : entry_in es (length es) ≡ Some z = sym (ap (entry_in es) number) ∙ entry_at es (length es - 1) x (omega (arith, bounds.0, bounds.1)) in
        let before = ordered i (length es) x z bounds.1 at last in
        let not_later = ltb-false e.booked.number z.booked.number (sym (ap (λ o. booked_after o e.booked) last) ∙ later) in
        omega (arith, before, not_later)

-- a filter that keeps every item keeps the list
kept_all : (p : Entry → Bool) (es : List Entry) (d : Entry) → ((i : ℕ) → i < length es → p (get_or es i d) ≡ true) → filter p es ≡ es
kept_all p [] d each = refl
kept_all p (e ∷ es) d each = cond-true _ _ _ (each 0 (omega arith)) ∙ ap (λ rest. e ∷ rest) (kept_all p es d (λ i h. each (suc i) (omega arith)))

module _ (day : Day) (es : List Entry) (e : Entry) where
  abbrev more : List Entry
  more = es ++ (e ∷ [])

  -- the new entry is known: then all are
  pub all_kept : Ordered more → is_booked_by day e ≡ true → filter (is_booked_by day) more ≡ more
  all_kept ordered known =
      kept_all (is_booked_by day) more e
      (λ i h.
      let long = length_push es e in
      let by = ordered (0 + i + 1) (length es + 1) (get_or more i e) e (omega (arith, long)) (entry_at more i e h) (entry_new es e) in
      let here = leb-true e.booked.number day.number known in
      le-leb _ _ (omega (arith, by, here)))

  pub known_all : Ordered more → is_booked_by day e ≡ true → known_on day more ≡ more
  known_all ordered known = take_all (booked_by day more) more (omega (arith, sym (length-filter (is_booked_by day) more), ap length (all_kept ordered known)))

  -- it is not: then what is known stays
  old_kept : is_booked_by day e ≡ false → filter (is_booked_by day) more ≡ filter (is_booked_by day) es
  old_kept unknown = filter-append (is_booked_by day) es (e ∷ []) ∙ ap (λ rest. filter (is_booked_by day) es ++ rest) (cond-false _ _ _ unknown) ∙ append-nil (filter (is_booked_by day) es)

  pub known_old : is_booked_by day e ≡ false → known_on day more ≡ known_on day es
  known_old unknown =
      let count : booked_by day more ≡ booked_by day es = sym (length-filter (is_booked_by day) more) ∙ ap length (old_kept unknown) ∙ length-filter (is_booked_by day) es in
      ap (λ n. take n more) count ∙ take-append-le (booked_by day es) es (e ∷ []) (count_by-le-length (is_booked_by day) es)

  -- what is known are the entries booked on or before the day
  pub known_more : Ordered more → known_on day es ≡ filter (is_booked_by day) es → known_on day more ≡ filter (is_booked_by day) more
  known_more ordered before =
      elim (cases_Bool (is_booked_by day e)) [
        | inl known ↦ known_all ordered known ∙ sym (all_kept ordered known)
        | inr unknown ↦ known_old unknown ∙ before ∙ sym (old_kept unknown)
      ]
