use Rattle.std.proofs.Common.{◌≡◌, drop}
use Rattle.full_size.specs.Readings.{booked}
use Rattle.full_size.proofs.reading.book_all.Given as goal

-- what is left to book leads to the same end
abbrev pub invariant-loop-entry : goal.invariant-loop-entry
invariant-loop-entry g l = booked (g.R.Register.meaning l.register) (drop l.entry-index l.book) ≡ booked (g.R.Register.meaning l.initial.register) l.book
