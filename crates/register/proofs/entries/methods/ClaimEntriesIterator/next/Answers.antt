use Rattle.std.proofs.Common.{rules}
use Rattle.register.proofs.Listing.{next_first, next_ended}
use Rattle.register.proofs.entries.methods.ClaimEntriesIterator.next.Goals as goal

pub returns-in_err-found-clause-steps : goal.returns-in_err-found-clause-steps
returns-in_err-found-clause-steps g c = search (rules, next_ended)

pub returns-clause-steps : goal.returns-clause-steps
returns-clause-steps g c = search (rules, next_first)

pub returns-clause-goes : goal.returns-clause-goes
returns-clause-goes g c = search (rules, next_first)
