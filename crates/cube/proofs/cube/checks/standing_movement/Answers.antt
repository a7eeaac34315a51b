use Rattle.std.proofs.Common.{rules}
use Rattle.cube.proofs.KnownClaims.{entry_known}
use Rattle.cube.proofs.cube.checks.standing_movement.Goals as goal

pub returns-clause-known : goal.returns-clause-known
returns-clause-known g c =
    let book = g.R.Register.meaning c.args.register.now in
    entry_known book.bound book.entries c.args.number c.in_ok-entry.entry (g.R.Register.sound c.args.register.now).claims (search rules)
