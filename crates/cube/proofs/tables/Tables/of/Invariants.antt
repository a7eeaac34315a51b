use Rattle.std.proofs.Common.{◌≡◌, length, take}
use Rattle.cube.specs.Tables.{Tabled}
use Rattle.cube.proofs.tables.Tables.of.Given as goal

abbrev pub invariant-loop-next : goal.invariant-loop-next
invariant-loop-next g l =
    let book = g.R.Register.meaning l.register in
    Tabled book.bound (take (length l.yielded) book.entries) l.tables × (l.tables.count ≡ l.count)
