use Rattle.std.proofs.Common.{ap, ◌∙◌}
use Rattle.register.specs.Entries.{claim_days_in}
use Rattle.register.specs.Registers.{Meaning, is_claim}
use Rattle.cube.specs.Known.{first_entries}
use Rattle.cube.proofs.Drawn.{days_read, days_within}
use Rattle.cube.proofs.known_entries.KnownEntries.claim_days.Goals as goal

pub claim_days_of-requires : goal.claim_days_of-requires
claim_days_of-requires g c =
    let k = c.self.inside in
    let first = first_entries k.tables.count (g.R.Register.meaning k.register.now) in
    days_within first.bound first.entries k.tables c.self.invariant c.args.claim (ap (λ (m : Meaning). is_claim m.bound c.args.claim) c.self.view_is ∙ c.requires)

pub returns : goal.returns
returns g c =
    let k = c.self.inside in
    let first = first_entries k.tables.count (g.R.Register.meaning k.register.now) in
    c.claim_days_of.ensures
    ∙ days_read first.bound first.entries k.tables c.self.invariant c.args.claim (ap (λ (m : Meaning). is_claim m.bound c.args.claim) c.self.view_is ∙ c.requires)
    ∙ ap (λ (m : Meaning). claim_days_in m.entries c.args.claim) c.self.view_is
