use Rattle.std.proofs.Common.{◌≡◌, List, flat_map, sym, refl, ap, ◌∙◌}
use Rattle.register.specs.Iterators.{claim_entries_left}
use Rattle.register.specs.declared.numbered.NumberedEntry.{NumberedEntry}
use Rattle.cube.specs.Brings.{standing_part}
use Rattle.cube.specs.Sheets.{added_all}
use Rattle.cube.proofs.Claims.{added_append, parts_joined}
use Rattle.cube.proofs.sheet.Cells.add_claim_part.Goals as goal

pub loop-found-init : goal.loop-found-init
loop-found-init g c =
    let es = (g.R.Register.meaning c.args.register.now).entries in
    let m = g.C.Cohort.meaning c.args.self.now.cohort.now in
    let p = c.args.placing in
    let cells = c.args.self.now.cells.now in
    let part = λ (xs : List NumberedEntry). added_all cells (flat_map (λ x. standing_part m p.valued es p.claim_days c.args.direction x.number x.entry) xs) in (
      refl,
      refl,
      ap (λ it. part (claim_entries_left g.R.Register.meaning it)) c.into_iter-found-iterator.ensures.into_iter_gives
          ∙ ap part c.claim_entries-found-items.ensures.left
          ∙ ap (added_all cells) (parts_joined m p.valued es c.args.claim p.claim_days c.args.direction),
    )

pub loop-found-preserved : goal.loop-found-preserved
loop-found-preserved g c =
    let es = (g.R.Register.meaning c.args.register.now).entries in
    let m = g.C.Cohort.meaning c.args.self.now.cohort.now in
    let p = c.args.placing in
    let l = c.loop-found in
    let x = c.in-Some.found in
    let here = standing_part m p.valued es p.claim_days c.args.direction x.number x.entry in
    let parts = λ (xs : List NumberedEntry). flat_map (λ y. standing_part m p.valued es p.claim_days c.args.direction y.number y.entry) xs in
    let rest = parts (claim_entries_left g.R.Register.meaning c.next.new.self) in
    let cells : c.add_standing_part.new.self.cells.now ≡ added_all l.self.cells.now here =
    c.add_standing_part.ensures.cells
    ∙ ap (λ h. added_all l.self.cells.now (standing_part (g.C.Cohort.meaning h) p.valued es p.claim_days c.args.direction x.number x.entry)) l.invariant.1 in (
      c.add_standing_part.ensures.lent ∙ l.invariant.0,
      c.add_standing_part.ensures.cohort ∙ l.invariant.1,
      ap (λ s. added_all s rest) cells ∙ sym (added_append l.self.cells.now here rest) ∙ ap (λ xs. added_all l.self.cells.now (parts xs)) (sym c.in-Some.ensures.steps) ∙ l.invariant.2,
    )
