-- Which happening a draw is. Assumes nothing.
use Rattle.std.specs.Prelude.{ℕ, ◌+◌, cond, nat_lt}
use Rattle.samples.specs.declared.happening.Happening.{Happening}
use Rattle.samples.specs.declared.happening.Happening.TheVariants.{Payment, ReserveChange, Correction, Void, Redating}
use Rattle.samples.specs.declared.happening.Shares.{Shares}

-- so many happenings are shared out
abbrev pub all_shares : Shares → ℕ
all_shares s = s.payments + s.reserve_changes + s.corrections + s.voids + s.redatings

-- the happening of a draw: the first of them are payments, the next reserve changes, and so on
abbrev pub happening_at : Shares → ℕ → Happening
happening_at s draw = cond (nat_lt draw s.payments) Payment (cond (nat_lt draw (s.payments + s.reserve_changes)) ReserveChange (cond (nat_lt draw (s.payments + s.reserve_changes + s.corrections)) Correction (cond (nat_lt draw (s.payments + s.reserve_changes + s.corrections + s.voids)) Void Redating)))
