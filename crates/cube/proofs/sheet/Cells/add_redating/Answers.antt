use Rattle.std.proofs.Common.{rules}
use Rattle.cube.proofs.Claims.{added_append}
use Rattle.cube.proofs.sheet.Cells.add_redating.Goals as goal

pub returns : goal.returns
returns g c = search (rules, added_append)
