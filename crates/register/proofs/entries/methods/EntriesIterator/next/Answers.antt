use Rattle.std.proofs.Common.{sym, ◌∙◌, rules}
use Rattle.register.proofs.Listing.{entry_within, entry_first, entry_none}
use Rattle.register.proofs.entries.methods.EntriesIterator.next.Goals as goal

pub returns-in_err-entry-clause-steps : goal.returns-in_err-entry-clause-steps
returns-in_err-entry-clause-steps g c = search (rules, entry_none)

pub invariant_of-self : goal.invariant_of-self
invariant_of-self g c = search (rules, entry_within, g.R.Register.sound c.args.self.now.register.now)

pub returns-clause-steps : goal.returns-clause-steps
returns-clause-steps g c = entry_first _ _ _ (sym c.in_ok-entry.was ∙ c.entry.ensures)

pub returns-clause-goes : goal.returns-clause-goes
returns-clause-goes g c = search (rules, returns-clause-steps g c)
