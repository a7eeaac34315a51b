use Rattle.std.proofs.Common.{◌≤◌, length, take, ap, ◌∙◌, arith}
use Rattle.std.proofs.lemmas.List.{length-take}
use Rattle.register.specs.Registers.{Meaning}
use Rattle.cube.specs.Tables.{is_replaced_in}
use Rattle.cube.proofs.Drawn.{replaced_read, replaced_within_table}
use Rattle.cube.proofs.known_entries.KnownEntries.is_replaced.Goals as goal

pub is_replaced-requires : goal.is_replaced-requires
is_replaced-requires g c =
    let k = c.self.inside in
    let book = g.R.Register.meaning k.register.now in
    replaced_within_table book.bound (take k.tables.count book.entries) k.tables c.self.invariant c.args.number
    (omega (arith, c.requires, ap (λ (m : Meaning). length m.entries) c.self.view_is, length-take k.tables.count book.entries))

pub returns : goal.returns
returns g c =
    let k = c.self.inside in
    let book = g.R.Register.meaning k.register.now in
    let within : c.args.number ≤ k.tables.count = omega (arith, c.requires, ap (λ (m : Meaning). length m.entries) c.self.view_is, length-take k.tables.count book.entries) in
    c.is_replaced.ensures
    ∙ replaced_read book.bound (take k.tables.count book.entries) k.tables c.self.invariant c.args.number within
    ∙ ap (λ (m : Meaning). is_replaced_in m.entries c.args.number) c.self.view_is
