use Rattle.std.proofs.Common.{◌≡◌, length, Ok, sym, rules}
use Rattle.cube.specs.Cubes.{state_of}
use Rattle.cube.specs.Model.{start_answer}
use Rattle.cube.proofs.Joins.{start_new}
use Rattle.cube.proofs.Rows.{promised}
use Rattle.cube.proofs.cube.Cube.start.Goals as goal

pub returns-clause-law : goal.returns-clause-law
returns-clause-law g c =
    let s = state_of g.R.Register.meaning g.C.Cohort.meaning c.args.self.now in
    let accepted : Ok tt ≡ start_answer s (length c.args.sheet.now) = search rules in
    promised _ (start_new s c.args.mark c.args.sheet.now _ (sym accepted) (search rules) (g.R.Register.sound c.args.self.now.register).few_entries)
