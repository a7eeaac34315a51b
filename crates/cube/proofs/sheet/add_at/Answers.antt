use Rattle.std.proofs.Common.{rules}
use Rattle.std.proofs.lemmas.Int.{wraps}
use Rattle.cube.proofs.sheet.add_at.Goals as goal

pub returns : goal.returns
returns c = search (rules, wraps)
