use Rattle.std.proofs.Common.{◌%◌, arith, rules, sym}
use Rattle.std.proofs.lemmas.Grind.{common_steps}
use Rattle.wording.proofs.Grouping.{grouped_more, grouped_small, zeros_before}
use Rattle.wording.proofs.money.GroupedDisplay.+fmt.Goals as goal

pub returns-then-self-lt1000-clause-writes : goal.returns-then-self-lt1000-clause-writes
returns-then-self-lt1000-clause-writes g t c = rw (grouped_small c.args.self.now.0 c.if-self-lt1000.true) (grind (arith, common_steps))

pub returns-clause-writes : goal.returns-clause-writes
returns-clause-writes g t c =
    rw (grouped_more c.args.self.now.0 (search rules) c.if-self-lt1000.false, sym (zeros_before 3 (c.args.self.now.0 % 1000)))
    (grind (arith, common_steps))
