use Rattle.std.proofs.Common.{◌≡◌, ◌≤◌, map, length, take, vec_items, vec_len, vec_capacity}
use Rattle.cube.specs.Cubes.{desk_of}
use Rattle.cube.specs.Runs.{desk_after, replies_to, told}
use Rattle.cube.proofs.cube.Cube.run.Given as goal

abbrev pub invariant-loop-request : goal.invariant-loop-request
invariant-loop-request g l =
    let before = desk_of g.R.Register.meaning g.C.Cohort.meaning l.initial.self l.initial.sheet (vec_items l.initial.drawer) in
    (map told (vec_items l.answers) ≡ replies_to before (take l.request-index l.row))
    × (desk_of g.R.Register.meaning g.C.Cohort.meaning l.self l.sheet (vec_items l.drawer) ≡ desk_after before (take l.request-index l.row))
    × (vec_len l.answers ≡ l.request-index)
    × (length l.row ≤ vec_capacity l.answers)
