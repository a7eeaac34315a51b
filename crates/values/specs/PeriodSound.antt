-- A period cohort is sound: it has 1 to 40 rows and columns, and places only within them. Assumes nothing.
use Rattle.std.specs.Prelude.{◌≡◌, ℕ, ◌<◌, ◌≤◌, true, ℤ, pos, negsuc, ◌-ℤ◌, IfSome, Some, None, Option, nat_le, nat_lt}
use Rattle.std.proofs.Common.{ltb-true, leb-true}
use Rattle.std.proofs.lemmas.Bool.{and_parts, cond_both}
use Rattle.values.specs.declared.day.Day.{Day}
use Rattle.values.specs.declared.period.PeriodCohort.{PeriodCohort}
use Rattle.values.specs.Calendar.{between, month_number}
use Rattle.values.specs.Cohorts.{Sound, Inside}
use Rattle.values.specs.Periods.{floor_div, index_below, first_month}
use Rattle.values.specs.PeriodCohorts.{anchor_day, cell_in_row, place_at, period_meaning}

index_below_lem : (bound : ℕ) (z : ℤ) → IfSome (index_below bound z) (λ n. n < bound)
index_below_lem bound (pos n) = cond_both (nat_lt n bound) (Some n) None (λ o. IfSome o (λ k. k < bound)) (ltb-true n bound) (λ _. tt)
index_below_lem bound (negsuc n) = tt

module _ (c : PeriodCohort) where
  in_row : (row : ℕ) → row < c.rows → (column : Option ℕ) → IfSome column (λ n. n < c.columns) → Inside (period_meaning c) (cell_in_row row column)
  in_row row h None k = tt
  in_row row h (Some column) k = (h, k)

  in_table : (day : Day) (row : Option ℕ) → IfSome row (λ n. n < c.rows) → Inside (period_meaning c) (place_at c day row)
  in_table day None h = tt
  in_table day (Some row) h = in_row row h _ (index_below_lem c.columns (floor_div (pos (month_number day.number) -ℤ pos (first_month c.base c.months row)) c.months))

low : (low high n : ℕ) → between low high n ≡ true → low ≤ n
low a b n e = leb-true a n (and_parts (nat_le a n) (nat_le n b) e).0

high : (low high n : ℕ) → between low high n ≡ true → n ≤ high
high a b n e = leb-true n b (and_parts (nat_le a n) (nat_le n b) e).1

pub period_sound : (c : PeriodCohort) → Sound (period_meaning c)
period_sound c = record {
  some_rows = low 1 40 c.rows c.height;
  few_rows = high 1 40 c.rows c.height;
  some_columns = low 1 40 c.columns c.width;
  few_columns = high 1 40 c.columns c.width;
  inside = λ claim day. in_table c day _ (index_below_lem c.rows (floor_div (pos (month_number (anchor_day c.anchor claim).number) -ℤ pos c.base) c.months));
}
