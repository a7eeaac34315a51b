use Rattle.std.proofs.Common.{◌≡◌, length, ap, ◌∙◌, inl, arith}
use Rattle.std.proofs.lemmas.Iterator.Consumers.{YieldsList-from_first, count_from_yields_List}
use Rattle.register.specs.Iterators.{claim_entries_left}
use Rattle.side_by_side.specs.Requests.{count_of}
use Rattle.side_by_side.proofs.Counting.{count_of_le, length-claim_entries}
use Rattle.side_by_side.proofs.serve.entries_of_claim.Given.{Over}
use Rattle.side_by_side.proofs.serve.entries_of_claim.Goals as goal

-- all entries of the claim are counted
counted : (g : Over) (c : goal.After-count g) → c.count.result ≡ count_of (g.R.Register.meaning c.args.register.now).entries c.args.claim
counted g c =
    let road = YieldsList-from_first (λ x. x) (claim_entries_left g.R.Register.meaning) _ c.claim_entries.ensures.left in
    count_from_yields_List c.claim_entries.result c.count.result c.count.ensures.ran road
    ∙ length-claim_entries (g.R.Register.meaning c.args.register.now).entries c.args.claim

pub count-requires-clause-fits : goal.count-requires-clause-fits
count-requires-clause-fits g c =
    let es = (g.R.Register.meaning c.args.register.now).entries in
    let sound = g.R.Register.sound c.args.register.now in
    let left = ap length c.claim_entries.ensures.left ∙ length-claim_entries es c.args.claim in
    let few = count_of_le es c.args.claim in
    inl (omega arith)

pub overflow_cast-result : goal.overflow_cast-result
overflow_cast-result g c =
    let es = (g.R.Register.meaning c.args.register.now).entries in
    let sound = g.R.Register.sound c.args.register.now in
    omega (arith, counted g c, count_of_le es c.args.claim)

pub returns : goal.returns
returns g c = counted g c
