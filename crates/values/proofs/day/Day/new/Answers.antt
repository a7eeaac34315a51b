use Rattle.std.proofs.Common.{rules}
use Rattle.values.proofs.Lawful.{day_made, fails}
use Rattle.values.proofs.day.Day.new.Goals as goal

pub returns-then-is_day : goal.returns-then-is_day
returns-then-is_day c = day_made _

pub returns-else-is_day : goal.returns-else-is_day
returns-else-is_day c = fails _ _ _ (search rules)
