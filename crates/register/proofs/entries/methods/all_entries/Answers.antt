use Rattle.std.proofs.Common.{arith}
use Rattle.register.proofs.Listing.{entries_le, yields_in_order}
use Rattle.register.specs.Iterators.{entries_left}
use Rattle.register.proofs.entries.methods.all_entries.Goals as goal

pub returns-clause-few : goal.returns-clause-few
returns-clause-few g c =
    let sound = g.R.Register.sound c.args.register.now in
    omega (arith, entries_le (g.R.Register.meaning c.args.register.now).entries 0, sound.room, sound.few_entries)

pub returns-clause-runs : goal.returns-clause-runs
returns-clause-runs g c = yields_in_order (entries_left g.R.Register.meaning)
