use Rattle.std.proofs.Common.{List, is_ok, vec_items, ap, ◌∙◌}
use Rattle.std.specs.List.{insert}
use Rattle.cube.specs.declared.ticket.Ticket.{Ticket}
use Rattle.std.proofs.lemmas.Bool.{cond-true}
use Rattle.cube.specs.Cubes.{desk_of}
use Rattle.cube.proofs.Desks.{post_accepted, post_refused, ticket_at}
use Rattle.cube.proofs.cube.Cube.serve_post.Goals as goal

pub returns-in-Ok : goal.returns-in-Ok
returns-in-Ok g c =
    let a = c.args in
    let at = ticket_at (vec_items a.drawer.now) a.place c.in-Some.ticket c.in-Some.ensures.0 c.in-Some.ensures.1 in
    post_accepted (desk_of g.R.Register.meaning g.C.Cohort.meaning a.self.now a.sheet.now (vec_items a.drawer.now)) a.place a.booked a.terms c.in-Some.ticket at c.in-Ok.number
    (desk_of g.R.Register.meaning g.C.Cohort.meaning c.post.new.self c.post.new.sheet (vec_items c.take_ticket.new.drawer))
    c.in-Ok.ensures.answer c.post.ensures.ledger c.in-Some.ensures.2

pub returns-in-Err : goal.returns-in-Err
returns-in-Err g c =
    let a = c.args in
    let at = ticket_at (vec_items a.drawer.now) a.place c.in-Some.ticket c.in-Some.ensures.0 c.in-Some.ensures.1 in
    post_refused (desk_of g.R.Register.meaning g.C.Cohort.meaning a.self.now a.sheet.now (vec_items a.drawer.now)) a.place a.booked a.terms c.in-Some.ticket c.in-Err.ticket at c.in-Some.ensures.0 c.in-Some.ensures.1 c.in-Err.fault
    (desk_of g.R.Register.meaning g.C.Cohort.meaning c.post.new.self c.post.new.sheet (vec_items c.insert.new.self))
    c.in-Err.ensures.answer c.post.ensures.ledger
    (c.insert.ensures.items ∙ cond-true _ _ _ (ap is_ok c.unwrap.ensures) ∙ ap (λ (xs : List Ticket). insert xs a.place c.in-Err.ticket) c.in-Some.ensures.2)
