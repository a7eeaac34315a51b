use Rattle.std.proofs.Common.{◌≡◌, fold, None, ◌∙◌, rules}
use Rattle.register.proofs.Listing.{claim_days_folded}
use Rattle.register.specs.Entries.{days_after}
use Rattle.register.specs.Registers.{claim_entries_after}
use Rattle.cube.proofs.KnownClaims.{days_known}
use Rattle.cube.proofs.reading.claim_days_in_force.Goals as goal

pub returns : goal.returns
returns g c =
    let book = g.R.Register.meaning c.args.register.now in
    let folded : c.fold.result ≡ fold (λ days x. days_after days x.entry.content) None (claim_entries_after book.entries c.args.claim 0) = search rules in
    let value = folded ∙ claim_days_folded book.entries c.args.claim in
    record { value = value; known = days_known book.bound book.entries c.args.claim c.fold.result (g.R.Register.sound c.args.register.now).claims value }
