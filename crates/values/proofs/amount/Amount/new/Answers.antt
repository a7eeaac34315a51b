use Rattle.std.proofs.Common.{ap, ◌∙◌, w64, rules}
use Rattle.std.proofs.lemmas.Int.{to_z-of_z}
use Rattle.values.specs.Making.{amount_of}
use Rattle.values.proofs.Lawful.{amount_made, fails}
use Rattle.values.proofs.amount.Amount.new.Goals as goal

pub returns-then-is_amount : goal.returns-then-is_amount
returns-then-is_amount c = amount_made _ ∙ ap amount_of (to_z-of_z w64 c.args.cents c.ranges.cents)

pub returns-else-is_amount : goal.returns-else-is_amount
returns-else-is_amount c = fails _ _ _ (search rules)
