use Rattle.std.proofs.Common.{◌+◌, drop, sym, ap, ◌∙◌}
use Rattle.full_size.specs.Readings.{booked}
use Rattle.full_size.proofs.Steps.{book_on, book_out}
use Rattle.full_size.proofs.reading.book_all.Goals as goal

pub loop-entry-preserved : goal.loop-entry-preserved
loop-entry-preserved g c =
    let book = c.args.book.now in
    let i = c.loop-entry.entry-index in
    ap (λ m. booked m (drop (i + 1) book)) c.add.ensures.after
    ∙ sym (book_on (g.R.Register.meaning c.loop-entry.register) book i c.entry-item.result c.loop-entry-test.true c.entry-item.is)
    ∙ c.loop-entry.invariant

pub returns : goal.returns
returns g c =
    sym (book_out (g.R.Register.meaning c.loop-entry.register) c.args.book.now c.loop-entry.entry-index c.loop-entry-test.false)
    ∙ c.loop-entry.invariant
