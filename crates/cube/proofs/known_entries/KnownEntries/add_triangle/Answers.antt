use Rattle.std.proofs.Common.{◌≡◌, ◌+◌, ◌≤◌, length, take, drop, Some, sym, refl, ap, ◌∙◌, arith, rules}
use Rattle.std.proofs.lemmas.Iterator.{YieldsList-from_take}
use Rattle.std.proofs.lemmas.Iterator.Consumers.{YieldsList-at, YieldsList-end, YieldsList-from_first, YieldsList-turn}
use Rattle.std.proofs.lemmas.List.{drop_all, length-take, length_push}
use Rattle.register.specs.Entries.{entry_in}
use Rattle.register.specs.Iterators.{entries_left}
use Rattle.register.specs.Registers.{Meaning, is_claim, numbered_from}
use Rattle.cube.specs.Queries.{part_at}
use Rattle.cube.specs.Sheets.{added_all}
use Rattle.cube.specs.Triangles.{triangle_from, triangle_part}
use Rattle.cube.proofs.Claims.{added_append}
use Rattle.cube.proofs.Drawn.{triangle_next}
use Rattle.cube.proofs.KnownEntries.{claim_first, entry_within, length-numbered_from, numbered_at}
use Rattle.cube.proofs.known_entries.KnownEntries.add_triangle.Goals as goal

pub add_part-requires : goal.add_part-requires
add_part-requires g c =
    let k = c.self.inside in
    let book = g.R.Register.meaning k.register.now in
    let l = c.loop-found in
    let n = c.take-found-items.result.n in
    let road =
    YieldsList-at c.into_iter-found-iterator.ensures.into_iter_gives
    (YieldsList-from_take n (YieldsList-at c.take-found-items.ensures.source (YieldsList-from_first (λ x. x) (entries_left g.R.Register.meaning) _ c.all_entries.ensures.left)) refl) in
    let x = c.in-Some.found in
    let turn = YieldsList-turn road l.yielded l.found-iterator l.yielded_by c.next.result c.next.new.self x c.in-Some.is c.next.ensures.steps in
    let i = length l.yielded in
    let here = numbered_at n book.entries i x turn.0 turn.1 in
    let few : n ≤ k.tables.count = search rules in
    let among : Some x.entry ≡ entry_in (take k.tables.count book.entries) (i + 1) = here.1 ∙ sym (entry_within k.tables.count book.entries (i + 1) (omega (arith, here.2, few))) in
    let first : Some x.entry ≡ entry_in (take k.tables.count book.entries) x.number = among ∙ ap (entry_in (take k.tables.count book.entries)) (sym here.0) in
    record {
      found = first ∙ ap (λ (m : Meaning). entry_in m.entries x.number) c.self.view_is;
      claim = ap (λ (m : Meaning). is_claim m.bound x.entry.claim) (sym c.self.view_is) ∙ claim_first book k.tables.count x.number (g.R.Register.sound k.register.now).claims (Some x.entry) first;
    }

pub loop-found-preserved : goal.loop-found-preserved
loop-found-preserved g c =
    let es = c.args.self.now.entries in
    let m = g.C.Cohort.meaning c.args.cells.now.cohort.now in
    let k = c.self.inside in
    let book = g.R.Register.meaning k.register.now in
    let l = c.loop-found in
    let n = c.take-found-items.result.n in
    let road =
    YieldsList-at c.into_iter-found-iterator.ensures.into_iter_gives
    (YieldsList-from_take n (YieldsList-at c.take-found-items.ensures.source (YieldsList-from_first (λ x. x) (entries_left g.R.Register.meaning) _ c.all_entries.ensures.left)) refl) in
    let x = c.in-Some.found in
    let turn = YieldsList-turn road l.yielded l.found-iterator l.yielded_by c.next.result c.next.new.self x c.in-Some.is c.next.ensures.steps in
    let i = length l.yielded in
    let here = numbered_at n book.entries i x turn.0 turn.1 in
    let few : n ≤ k.tables.count = search rules in
    let among : Some x.entry ≡ entry_in (take k.tables.count book.entries) (i + 1) = here.1 ∙ sym (entry_within k.tables.count book.entries (i + 1) (omega (arith, here.2, few))) in
    let part = part_at m c.args.valued es (i + 1) (entry_in es (i + 1)) in
    let rest = triangle_from m c.args.valued es (i + 1) (drop (i + 1) es) in
    let is : triangle_part m c.args.valued es x.number x.entry ≡ part =
    ap (λ n. triangle_part m c.args.valued es n x.entry) here.0 ∙ ap (part_at m c.args.valued es (i + 1)) (among ∙ ap (λ (q : Meaning). entry_in q.entries (i + 1)) c.self.view_is) in
    let cells : c.add_part.new.cells.cells.now ≡ added_all l.cells.cells.now part =
    c.add_part.ensures.cells ∙ ap (λ h. added_all l.cells.cells.now (triangle_part (g.C.Cohort.meaning h) c.args.valued es x.number x.entry)) l.invariant.1 ∙ ap (added_all l.cells.cells.now) is in (
      c.add_part.ensures.lent ∙ l.invariant.0,
      c.add_part.ensures.cohort ∙ l.invariant.1,
      ap (λ n. added_all c.add_part.new.cells.cells.now (triangle_from m c.args.valued es n (drop n es))) (length_push l.yielded x)
          ∙ ap (λ s. added_all s rest) cells
          ∙ sym (added_append l.cells.cells.now part rest)
          ∙ ap (added_all l.cells.cells.now) (sym (triangle_next m c.args.valued es i))
          ∙ l.invariant.2,
    )

pub returns : goal.returns
returns g c =
    let es = c.args.self.now.entries in
    let m = g.C.Cohort.meaning c.args.cells.now.cohort.now in
    let k = c.self.inside in
    let book = g.R.Register.meaning k.register.now in
    let l = c.loop-found in
    let n = c.take-found-items.result.n in
    let road =
    YieldsList-at c.into_iter-found-iterator.ensures.into_iter_gives
    (YieldsList-from_take n (YieldsList-at c.take-found-items.ensures.source (YieldsList-from_first (λ x. x) (entries_left g.R.Register.meaning) _ c.all_entries.ensures.left)) refl) in
    let ended = YieldsList-end road l.yielded l.found-iterator l.yielded_by c.next.result c.next.new.self c.in-None.is c.next.ensures.steps in
    let i = length l.yielded in
    let past : length es ≤ i = omega (arith, ended.1, length-take n (numbered_from 0 book.entries), c.take-found-items.ensures.count, length-numbered_from 0 book.entries, length-take k.tables.count book.entries, ap (λ (q : Meaning). length q.entries) c.self.view_is) in
    record {
      lent = l.invariant.0;
      cohort = l.invariant.1;
      cells = sym (ap (λ xs. added_all l.cells.cells.now (triangle_from m c.args.valued es i xs)) (drop_all i es past)) ∙ l.invariant.2;
    }
