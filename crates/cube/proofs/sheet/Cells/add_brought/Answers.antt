use Rattle.std.proofs.Common.{rules}
use Rattle.cube.proofs.sheet.Cells.add_brought.Goals as goal

pub returns-in-None : goal.returns-in-None
returns-in-None g c = search (rules, c.add_without_days.ensures (g.R.Register.meaning c.args.register.now).entries c.args.entry.claim)
