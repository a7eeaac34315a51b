use Rattle.std.proofs.Common.{refl}
use Rattle.values.specs.Making.{provided}
use Rattle.register.proofs.figures.proved_figures.Goals as goal

pub returns-clause-hold : goal.returns-clause-hold
unfolding provided
returns-clause-hold c = refl
