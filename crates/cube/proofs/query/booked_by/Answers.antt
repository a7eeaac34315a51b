use Rattle.std.proofs.Common.{◌≡◌, length, ap, ◌∙◌, inl, arith, rules, tests}
use Rattle.std.proofs.lemmas.Iterator.Consumers.{YieldsList-at, YieldsList-from_filter, YieldsList-from_first, count_from_yields_List}
use Rattle.register.specs.Iterators.{entries_left}
use Rattle.cube.specs.Queries.{is_booked_by}
use Rattle.cube.proofs.KnownEntries.{booked_listed, length-numbered_from}
use Rattle.cube.proofs.query.booked_by.Goals as goal

pub count-requires-clause-fits : goal.count-requires-clause-fits
count-requires-clause-fits g c =
    let book = g.R.Register.meaning c.args.register.now in
    let sound = g.R.Register.sound c.args.register.now in
    let left : length (entries_left g.R.Register.meaning c.filter.result.iter) ≡ length book.entries =
    ap (λ it. length (entries_left g.R.Register.meaning it)) c.filter.ensures.source ∙ ap length c.all_entries.ensures.left ∙ length-numbered_from 0 book.entries in
    inl (omega (arith, left, sound.room, sound.few_entries))

pub overflow_cast-result : goal.overflow_cast-result
overflow_cast-result g c =
    let book = g.R.Register.meaning c.args.register.now in
    let sound = g.R.Register.sound c.args.register.now in
    let left : length (entries_left g.R.Register.meaning c.filter.result.iter) ≡ length book.entries =
    ap (λ it. length (entries_left g.R.Register.meaning it)) c.filter.ensures.source ∙ ap length c.all_entries.ensures.left ∙ length-numbered_from 0 book.entries in
    omega (arith, c.count.ensures.bound, left, sound.room, sound.few_entries)

pub returns : goal.returns
returns g c =
    let es = (g.R.Register.meaning c.args.register.now).entries in
    let all = YieldsList-from_first (λ x. x) (entries_left g.R.Register.meaning) _ c.all_entries.ensures.left in
    count_from_yields_List c.filter.result c.count.result c.count.ensures.ran
    (YieldsList-from_filter _ (λ x. is_booked_by c.args.day x.entry) (YieldsList-at c.filter.ensures.source all) c.filter.ensures.closure (λ x b q k. search (rules, tests)))
    ∙ booked_listed c.args.day es
