use Rattle.std.proofs.Common.{◌≡◌, ◌-◌, take}
use Rattle.register.specs.Entries.{kind_in, kind_within}
use Rattle.cube.proofs.reading.kind_among.Given as goal

abbrev pub invariant-chain : goal.invariant-chain
invariant-chain g l =
    let es = take l.count (g.R.Register.meaning l.register).entries in
    kind_within es (l.number - l.counter) l.at ≡ kind_in es l.number
