use Rattle.std.proofs.Common.{◌≡◌, ◌+◌, ◌-◌, length, take, min, sym, refl, ap, ◌∙◌, subst, arith}
use Rattle.std.proofs.lemmas.Iterator.{YieldsList-from_take}
use Rattle.std.proofs.lemmas.Iterator.Consumers.{YieldsList-at, YieldsList-end, YieldsList-from_first, YieldsList-turn}
use Rattle.std.proofs.lemmas.List.{length-take, length_push, take_min}
use Rattle.register.specs.Entries.{entry_in}
use Rattle.register.specs.Iterators.{entries_left}
use Rattle.register.specs.Registers.{numbered_from}
use Rattle.cube.specs.Tables.{Tabled}
use Rattle.cube.proofs.KnownEntries.{length-numbered_from, numbered_at}
use Rattle.cube.proofs.tables.Tables.of.Goals as goal

pub overflow_sub-next : goal.overflow_sub-next
overflow_sub-next g c =
    let book = g.R.Register.meaning c.args.register.now in
    let l = c.loop-next in
    let n = c.take-next-items.result.n in
    let road =
    YieldsList-at c.into_iter-next-iterator.ensures.into_iter_gives
    (YieldsList-from_take n (YieldsList-at c.take-next-items.ensures.source (YieldsList-from_first (λ x. x) (entries_left g.R.Register.meaning) _ c.all_entries.ensures.left)) refl) in
    let turn = YieldsList-turn road l.yielded l.next-iterator l.yielded_by c.next.result c.next.new.self c.in-Some.next c.in-Some.is c.next.ensures.steps in
    let here = numbered_at n book.entries (length l.yielded) c.in-Some.next turn.0 turn.1 in
    omega (arith, here.0)

pub note-requires : goal.note-requires
note-requires g c =
    let book = g.R.Register.meaning c.args.register.now in
    let l = c.loop-next in
    let n = c.take-next-items.result.n in
    let road =
    YieldsList-at c.into_iter-next-iterator.ensures.into_iter_gives
    (YieldsList-from_take n (YieldsList-at c.take-next-items.ensures.source (YieldsList-from_first (λ x. x) (entries_left g.R.Register.meaning) _ c.all_entries.ensures.left)) refl) in
    let turn = YieldsList-turn road l.yielded l.next-iterator l.yielded_by c.next.result c.next.new.self c.in-Some.next c.in-Some.is c.next.ensures.steps in
    let here = numbered_at n book.entries (length l.yielded) c.in-Some.next turn.0 turn.1 in
    let before : length l.yielded ≡ c.in-Some.next.number - 1 = omega (arith, here.0) in
    record {
      tables = subst (λ k. Tabled book.bound (take k book.entries) l.tables) before l.invariant.0;
      before = omega (arith, before, here.2, c.take-next-items.ensures.count, l.invariant.1);
      next = here.1 ∙ ap (λ k. entry_in book.entries (k + 1)) before;
    }

pub loop-next-preserved : goal.loop-next-preserved
loop-next-preserved g c =
    let book = g.R.Register.meaning c.args.register.now in
    let l = c.loop-next in
    let n = c.take-next-items.result.n in
    let road =
    YieldsList-at c.into_iter-next-iterator.ensures.into_iter_gives
    (YieldsList-from_take n (YieldsList-at c.take-next-items.ensures.source (YieldsList-from_first (λ x. x) (entries_left g.R.Register.meaning) _ c.all_entries.ensures.left)) refl) in
    let turn = YieldsList-turn road l.yielded l.next-iterator l.yielded_by c.next.result c.next.new.self c.in-Some.next c.in-Some.is c.next.ensures.steps in
    let here = numbered_at n book.entries (length l.yielded) c.in-Some.next turn.0 turn.1 in
    let more : c.in-Some.next.number - 1 + 1 ≡ length l.yielded + 1 = omega (arith, here.0) in
    (subst (λ k. Tabled book.bound (take k book.entries) c.note.new.self) (more ∙ sym (length_push l.yielded c.in-Some.next)) c.note.ensures.tables, c.note.ensures.count ∙ l.invariant.1)

pub returns-clause-tables : goal.returns-clause-tables
returns-clause-tables g c =
    let book = g.R.Register.meaning c.args.register.now in
    let l = c.loop-next in
    let n = c.take-next-items.result.n in
    let road =
    YieldsList-at c.into_iter-next-iterator.ensures.into_iter_gives
    (YieldsList-from_take n (YieldsList-at c.take-next-items.ensures.source (YieldsList-from_first (λ x. x) (entries_left g.R.Register.meaning) _ c.all_entries.ensures.left)) refl) in
    let ended = YieldsList-end road l.yielded l.next-iterator l.yielded_by c.next.result c.next.new.self c.in-None.is c.next.ensures.steps in
    let count : length l.yielded ≡ min c.args.count (length book.entries) =
    ended.1 ∙ length-take n (numbered_from 0 book.entries) ∙ ap (min n) (length-numbered_from 0 book.entries) ∙ ap (λ k. min k (length book.entries)) c.take-next-items.ensures.count in
    subst (λ xs. Tabled book.bound xs l.tables) (ap (λ k. take k book.entries) count ∙ take_min c.args.count book.entries) l.invariant.0
