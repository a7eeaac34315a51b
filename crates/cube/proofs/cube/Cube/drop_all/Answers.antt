use Rattle.std.proofs.Common.{vec_items, sym, ap, ◌∙◌}
use Rattle.cube.specs.Cubes.{state_of}
use Rattle.cube.specs.Model.{State}
use Rattle.cube.specs.Runs.{dropped_all}
use Rattle.cube.proofs.Requests.{dropped_last}
use Rattle.cube.proofs.cube.Cube.drop_all.Goals as goal

pub loop-ticket-preserved : goal.loop-ticket-preserved
loop-ticket-preserved g c =
    let s = state_of g.R.Register.meaning g.C.Cohort.meaning c.loop-ticket.self in
    ap (λ (q : State). dropped_all q (vec_items c.pop.new.self)) c.drop_draft.ensures.state
    ∙ sym (dropped_last s (vec_items c.pop.new.self) c.in-Some.ticket)
    ∙ ap (dropped_all s) (sym c.in-Some.ensures.items)
    ∙ c.loop-ticket.invariant
