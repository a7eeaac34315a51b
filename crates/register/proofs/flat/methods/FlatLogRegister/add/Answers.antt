use Rattle.std.proofs.Common.{rules}
use Rattle.std.proofs.lemmas.List.{length_push}
use Rattle.register.proofs.Booked.{openings_le, openings_push, claims_push, push_fits}
use Rattle.register.proofs.flat.methods.FlatLogRegister.add.Goals as goal

pub overflow_add-self : goal.overflow_add-self
overflow_add-self c = search (rules, openings_le c.args.self.now.entries.items)

pub invariant_of-self : goal.invariant_of-self
invariant_of-self c =
    let pushed = push_fits c.args.self.now.entries.room c.args.self.now.entries.items _ _ _ (search rules) c.push.ensures.answer c.push.ensures.items in
    search (rules, pushed, length_push, openings_push, claims_push)
