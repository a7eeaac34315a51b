use Rattle.std.proofs.Common.{◌≡◌, length, drop}
use Rattle.cube.specs.Sheets.{added_all}
use Rattle.cube.specs.Triangles.{triangle, triangle_from}
use Rattle.cube.proofs.known_entries.KnownEntries.add_triangle.Given as goal

abbrev pub invariant-loop-found : goal.invariant-loop-found
invariant-loop-found g l =
    let es = l.self.entries in
    let m = g.C.Cohort.meaning l.initial.cells.cohort.now in
    (l.cells.cells.ghost_name ≡ l.initial.cells.cells.ghost_name)
    × (l.cells.cohort.now ≡ l.initial.cells.cohort.now)
    × (added_all l.cells.cells.now (triangle_from m l.valued es (length l.yielded) (drop (length l.yielded) es)) ≡ added_all l.initial.cells.cells.now (triangle m l.valued es))
