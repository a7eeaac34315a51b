use Rattle.std.proofs.Common.{◌≡◌, [], map, length, vec_items, sym, refl, ap, ◌∙◌, arith, rules, tests}
use Rattle.cube.specs.Cubes.{desk_of}
use Rattle.cube.specs.Runs.{Desk, desk_next, reply_to, told}
use Rattle.cube.proofs.Requests.{desk_more, ran, replies_more}
use Rattle.cube.proofs.cube.Cube.run.Goals as goal

pub returns-in_err-answers-clause-ran : goal.returns-in_err-answers-clause-ran
returns-in_err-answers-clause-ran g c =
    let before = desk_of g.R.Register.meaning g.C.Cohort.meaning c.args.self.now c.args.sheet.now (vec_items c.args.drawer.now) in
    let stopped = c.in_err-answers.field-0.0 in
    let none : vec_items stopped.answers ≡ [] = search (rules, tests) in
    let served = ran before c.args.row.now (vec_items stopped.answers) before 0 (ap length none) (ap (map told) none) refl in
    search (rules, served)

pub returns-in-Err-clause-ran : goal.returns-in-Err-clause-ran
returns-in-Err-clause-ran g c =
    let before = desk_of g.R.Register.meaning g.C.Cohort.meaning c.args.self.now c.args.sheet.now (vec_items c.args.drawer.now) in
    let l = c.loop-request in
    ran before c.args.row.now (vec_items l.answers) (desk_of g.R.Register.meaning g.C.Cohort.meaning c.serve.new.self c.serve.new.sheet (vec_items c.serve.new.drawer)) l.request-index
    (sym l.answers.ok.0 ∙ l.invariant.2) l.invariant.0 (c.in-Err.ensures ∙ l.invariant.1)

pub loop-request-preserved : goal.loop-request-preserved
loop-request-preserved g c =
    let before = desk_of g.R.Register.meaning g.C.Cohort.meaning c.args.self.now c.args.sheet.now (vec_items c.args.drawer.now) in
    let l = c.loop-request in
    let row = c.args.row.now in
    let r = c.request-item.result in
    let served = c.in-Ok.ensures in (
      ap (map told) c.push_reserved.ensures.items
          ∙ replies_more before row l.request-index r (omega arith) c.request-item.is (vec_items l.answers) c.in-Ok.answer l.invariant.0 (served.0 ∙ ap (λ (d : Desk). reply_to d r) l.invariant.1),
      desk_more before row l.request-index r (omega arith) c.request-item.is _ (served.1 ∙ ap (λ (d : Desk). desk_next d r) l.invariant.1),
      omega (arith, c.push_reserved.ensures.len, l.invariant.2),
      omega (arith, c.push_reserved.ensures.capacity, l.invariant.3),
    )

pub returns-clause-ran : goal.returns-clause-ran
returns-clause-ran g c =
    let before = desk_of g.R.Register.meaning g.C.Cohort.meaning c.args.self.now c.args.sheet.now (vec_items c.args.drawer.now) in
    let l = c.loop-request in
    ran before c.args.row.now (vec_items l.answers) (desk_of g.R.Register.meaning g.C.Cohort.meaning l.self l.sheet (vec_items l.drawer)) l.request-index
    (sym l.answers.ok.0 ∙ l.invariant.2) l.invariant.0 l.invariant.1
