use Rattle.std.proofs.Common.{◌∙◌, rules, tests}
use Rattle.std.proofs.lemmas.Iterator.Consumers.{YieldsList-from_first}
use Rattle.std.proofs.lemmas.Iterator.Search.{any_from_yields_List}
use Rattle.register.specs.Iterators.{claim_entries_left}
use Rattle.cube.specs.Model.{earlier_movement}
use Rattle.cube.proofs.Claims.{moved_any}
use Rattle.cube.proofs.cube.checks.moved_before.Goals as goal

pub returns : goal.returns
returns g c =
    let es = (g.R.Register.meaning c.args.register.now).entries in
    let road = YieldsList-from_first (λ x. x) (claim_entries_left g.R.Register.meaning) _ c.claim_entries.ensures.left in
    any_from_yields_List (λ x. earlier_movement es c.args.report x.number x.entry) c.any.new.self _ _ c.any.ensures.ran road (λ x b q k. search (rules, tests))
    ∙ moved_any es c.args.claim c.args.report
