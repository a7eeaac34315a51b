use Rattle.std.proofs.Common.{◌%◌, rules, sym}
use Rattle.std.specs.Prelude.{unsigned_abs}
use Rattle.wording.proofs.Grouping.{zeros_before}
use Rattle.wording.proofs.money.MoneyDisplay.fmt.Goals as goal

pub returns-clause-writes : goal.returns-clause-writes
returns-clause-writes g c =
    rw (sym (zeros_before 2 (unsigned_abs c.args.self.now.0 % 100)))
    (search rules)
