use Rattle.std.proofs.Common.{◌∙◌, rules, tests}
use Rattle.std.proofs.lemmas.Iterator.Consumers.{YieldsList-from_first}
use Rattle.std.proofs.lemmas.Iterator.Search.{any_from_yields_List}
use Rattle.register.proofs.Listing.{replaced_any}
use Rattle.register.specs.Entries.{is_number, named_by}
use Rattle.register.specs.Iterators.{claim_entries_left}
use Rattle.cube.proofs.reading.is_replaced.Goals as goal

pub returns : goal.returns
returns g c =
    let road = YieldsList-from_first (λ x. x) (claim_entries_left g.R.Register.meaning) _ c.claim_entries.ensures.left in
    any_from_yields_List (λ x. is_number (named_by x.entry) c.args.number) c.any.new.self _ _ c.any.ensures.ran road (λ x b q k. search (rules, tests))
    ∙ replaced_any (g.R.Register.meaning c.args.register.now).entries c.args.claim c.args.number
