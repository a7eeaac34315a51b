use Rattle.std.proofs.Common.{rules}
use Rattle.std.proofs.lemmas.Int.{wraps}
use Rattle.quarter.proofs.reserves.case_reserve.Goals as goal

pub returns : goal.returns
returns c = search (rules, wraps)
