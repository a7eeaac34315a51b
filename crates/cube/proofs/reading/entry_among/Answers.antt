use Rattle.std.proofs.Common.{sym, ◌∙◌}
use Rattle.cube.proofs.KnownEntries.{entry_within, entry_after}
use Rattle.cube.proofs.reading.entry_among.Goals as goal

pub returns-then-number-count : goal.returns-then-number-count
returns-then-number-count g c = c.entry.ensures ∙ sym (entry_within c.args.count (g.R.Register.meaning c.args.register.now).entries c.args.number c.if-number-count.true)

pub returns-else-number-count : goal.returns-else-number-count
returns-else-number-count g c = sym (entry_after c.args.count (g.R.Register.meaning c.args.register.now).entries c.args.number c.if-number-count.false)
