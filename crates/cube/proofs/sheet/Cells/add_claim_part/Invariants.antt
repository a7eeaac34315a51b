use Rattle.std.proofs.Common.{◌≡◌, flat_map}
use Rattle.register.specs.Iterators.{claim_entries_left}
use Rattle.cube.specs.Brings.{claim_part, standing_part}
use Rattle.cube.specs.Sheets.{added_all}
use Rattle.cube.proofs.sheet.Cells.add_claim_part.Given as goal

abbrev pub invariant-loop-found : goal.invariant-loop-found
invariant-loop-found g l =
    let es = (g.R.Register.meaning l.register).entries in
    let m = g.C.Cohort.meaning l.initial.self.cohort.now in
    let p = l.placing in
    (l.self.cells.ghost_name ≡ l.initial.self.cells.ghost_name)
    × (l.self.cohort.now ≡ l.initial.self.cohort.now)
    × (added_all l.self.cells.now (flat_map (λ x. standing_part m p.valued es p.claim_days l.direction x.number x.entry) (claim_entries_left g.R.Register.meaning l.found-iterator))
    ≡ added_all l.initial.self.cells.now (claim_part m p.valued es l.claim p.claim_days l.direction))
