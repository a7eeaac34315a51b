use Rattle.std.proofs.Common.{◌≡◌, vec_items, Ok, subst, sym, ap, ◌∙◌, rules}
use Rattle.cube.specs.Cubes.{desk_of}
use Rattle.cube.specs.declared.request.Answer.TheVariants as answer
use Rattle.cube.specs.declared.request.Request.TheVariants as request
use Rattle.cube.specs.Model.{State}
use Rattle.cube.specs.Runs.{Served, Told, told, told_of}
use Rattle.cube.proofs.Desks.{drop_none, drop_served, ticket_at}
use Rattle.cube.proofs.cube.Cube.serve_drop.Goals as goal

pub returns-in_default : goal.returns-in_default
returns-in_default g c = λ sheet.
    let drawer = vec_items c.args.drawer.now in
    let desk = desk_of g.R.Register.meaning g.C.Cohort.meaning c.args.self.now sheet in
    subst (λ xs. Served (desk drawer) (request.Drop c.args.place) (Ok answer.NoTicket) (desk xs)) (sym c.in_default.ensures.1) (drop_none (desk drawer) c.args.place c.in_default.ensures.0)

pub returns : goal.returns
returns g c = λ sheet.
    let d = desk_of g.R.Register.meaning g.C.Cohort.meaning c.args.self.now sheet (vec_items c.args.drawer.now) in
    let at = ticket_at (vec_items c.args.drawer.now) c.args.place c.in-Some.ticket c.in-Some.ensures.0 c.in-Some.ensures.1 in
    let answered : told c.map_or_else.result ≡ told_of (λ _. Told.Dropped) c.drop_draft.result = search rules in
    drop_served d c.args.place c.in-Some.ticket at c.map_or_else.result
    (desk_of g.R.Register.meaning g.C.Cohort.meaning c.drop_draft.new.self sheet (vec_items c.take_ticket.new.drawer))
    (answered ∙ ap (told_of (λ _. Told.Dropped)) c.drop_draft.ensures.answer) (ap (λ (s : State). record { state = s; sheet = sheet }) c.drop_draft.ensures.state) c.in-Some.ensures.2
