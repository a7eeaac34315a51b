use Rattle.std.proofs.Common.{◌≡◌, vec_items, vec_len}
use Rattle.cube.specs.Cubes.{state_of}
use Rattle.cube.specs.Runs.{dropped_all}
use Rattle.cube.proofs.cube.Cube.drop_all.Given as goal

abbrev pub invariant-loop-ticket : goal.invariant-loop-ticket
invariant-loop-ticket g l =
    dropped_all (state_of g.R.Register.meaning g.C.Cohort.meaning l.self) (vec_items l.left)
    ≡ dropped_all (state_of g.R.Register.meaning g.C.Cohort.meaning l.initial.self) (vec_items l.initial.left)

abbrev pub decreases-loop-ticket : goal.decreases-loop-ticket
decreases-loop-ticket g l = vec_len l.left
