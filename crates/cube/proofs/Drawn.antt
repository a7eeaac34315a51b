-- Drawing a triangle entry by entry from the tables of its list. Assumes nothing.
use Rattle.std.proofs.Common.{◌≡◌, ℕ, ◌+◌, ◌<◌, ◌≤◌, true, false, leb, List, ◌++◌, length, get_or, drop, Some, None, vec_items, vec_len, Option, sym, refl, ap, ◌∙◌, arith}
use Rattle.std.proofs.lemmas.List.FromFn.{get_or-map-range_with_len}
use Rattle.std.proofs.lemmas.List.{drop_all}
use Rattle.std.proofs.lemmas.Bool.{and_parts, leb-true}
use Rattle.values.specs.Cohorts.{Meaning}
use Rattle.values.specs.declared.day.Day.{Day}
use Rattle.register.specs.Entries.{claim_days_in, entry_in}
use Rattle.register.specs.Registers.{is_claim}
use Rattle.register.specs.declared.entry.Entry.{Entry}
use Rattle.cube.specs.declared.tables.Tables.{Tables}
use Rattle.cube.specs.Queries.{part_at}
use Rattle.cube.specs.Tables.{Tabled, is_replaced_in}
use Rattle.cube.specs.Triangles.{triangle_from}
use Rattle.cube.proofs.KnownEntries.{next_entry, no_next}
use Rattle.cube.proofs.Noted.{length_days, length_replaced}

-- what the tables of a list hold
module _ (bound : ℕ) (es : List Entry) (t : Tables) (tabled : Tabled bound es t) where
  -- of a claim
  module _ (claim : ℕ) (known : is_claim bound claim ≡ true) where
    claim_known : claim < bound + 1
    claim_known = omega (arith, leb-true claim bound (and_parts (leb 1 claim) (leb claim bound) known).1)

    pub days_within : claim < vec_len t.claim_days
    days_within = omega (arith, claim_known, t.claim_days.ok.0, ap length tabled.days, length_days bound es)

    pub days_read : get_or (vec_items t.claim_days) claim None ≡ claim_days_in es claim
    days_read = ap (λ table. get_or table claim None) tabled.days ∙ get_or-map-range_with_len (claim_days_in es) 0 (bound + 1) claim claim None claim_known (omega arith)

  -- of the entry numbered n
  pub replaced_within_table : (n : ℕ) → n ≤ t.count → n < vec_len t.replaced
  replaced_within_table n within = omega (arith, t.replaced.ok.0, ap length tabled.replaced, length_replaced t.count es)

  pub replaced_read : (n : ℕ) → n ≤ t.count → get_or (vec_items t.replaced) n false ≡ is_replaced_in es n
  replaced_read n within = ap (λ table. get_or table n false) tabled.replaced ∙ get_or-map-range_with_len (is_replaced_in es) 0 (t.count + 1) n n false (omega arith) (omega arith)

module _ (m : Meaning) (valued : Option Day) (es : List Entry) where
  -- the triangle, from the entry numbered i + 1 on
  pub triangle_next : (i : ℕ) → triangle_from m valued es i (drop i es) ≡ part_at m valued es (i + 1) (entry_in es (i + 1)) ++ triangle_from m valued es (i + 1) (drop (i + 1) es)
  triangle_next i = by (entry_in es (i + 1)) refl
    where
      by : (o : Option Entry) → o ≡ entry_in es (i + 1) → triangle_from m valued es i (drop i es) ≡ part_at m valued es (i + 1) o ++ triangle_from m valued es (i + 1) (drop (i + 1) es)
      by None is =
          let past = no_next es i is in
          ap (triangle_from m valued es i) (drop_all i es past) ∙ sym (ap (triangle_from m valued es (i + 1)) (drop_all (i + 1) es (omega arith)))
      by (Some e) is = ap (triangle_from m valued es i) (next_entry es i e is).left
