use Rattle.std.proofs.Common.{rules}
use lib.Seq.{take-set-lt}
use Rattle.std.proofs.lemmas.Option.{slice_get_past}
use Rattle.register.proofs.bounded.BoundedList.put.Goals as goal

pub returns-then-index-self-clause-items : goal.returns-then-index-self-clause-items
returns-then-index-self-clause-items g c = search (rules, take-set-lt)

pub returns-else-index-self-clause-answer : goal.returns-else-index-self-clause-answer
returns-else-index-self-clause-answer g c = search (rules, slice_get_past)
