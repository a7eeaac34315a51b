use Rattle.std.proofs.Common.{sym, subst}
use Rattle.values.specs.Cohorts.{Inside}
use Rattle.cube.proofs.sheet.cell_at.Goals as goal

pub cell_of-requires : goal.cell_of-requires
cell_of-requires g c =
    let h = c.args.cohort.now in
    subst (Inside (g.C.Cohort.meaning h)) (sym c.place-place.ensures) ((g.C.Cohort.sound h).inside c.args.claim_days c.args.day)
