use Rattle.std.proofs.Common.{◌+◌, true, length, take, set, vec_items, sym, ap, ◌∙◌, arith}
use Rattle.cube.specs.Tables.{days_by_claim, replaced_by_number}
use Rattle.cube.proofs.KnownClaims.{claim_within}
use Rattle.cube.proofs.KnownEntries.{next_entry}
use Rattle.cube.proofs.Noted.{days_noted, length_days, length_replaced, none_noted, one_noted, replaced_within}
use Rattle.cube.proofs.tables.Tables.note.Goals as goal

pub note_days-requires : goal.note_days-requires
note_days-requires g c =
    let book = g.R.Register.meaning c.args.register.now in
    let long = ap length c.requires.tables.days ∙ length_days book.bound (take c.args.before book.entries) in
    let claim = claim_within book.bound book.entries (c.args.before + 1) c.args.entry (g.R.Register.sound c.args.register.now).claims c.requires.next in
    omega (arith, long, claim, c.args.self.now.claim_days.ok.0)

pub index_mut-requires : goal.index_mut-requires
index_mut-requires g c =
    let book = g.R.Register.meaning c.args.register.now in
    let es = take c.args.before book.entries in
    let next = next_entry book.entries c.args.before c.args.entry c.requires.next in
    let within = replaced_within es c.args.entry c.in-Some.replaced c.in-Some.ensures in
    let long = ap (λ v. length (vec_items v)) c.note_days.ensures.replaced ∙ ap length c.requires.tables.replaced ∙ length_replaced c.args.self.now.count es in
    omega (arith, long, within, next.long, c.requires.before, c.note_days.new.self.replaced.ok.0)

pub returns-in-Some-clause-tables : goal.returns-in-Some-clause-tables
returns-in-Some-clause-tables g c =
    let book = g.R.Register.meaning c.args.register.now in
    let es = take c.args.before book.entries in
    let e = c.args.entry in
    let n = c.in-Some.replaced in
    let next = next_entry book.entries c.args.before e c.requires.next in
    let claim = claim_within book.bound book.entries (c.args.before + 1) e (g.R.Register.sound c.args.register.now).claims c.requires.next in
    let within = replaced_within es e n c.in-Some.ensures in
    let kept = ap (λ k. replaced_by_number k (take (c.args.before + 1) book.entries)) (sym c.note_days.ensures.count) in
    record {
      days = c.note_days.ensures.days ∙ days_noted book.bound es e (vec_items c.args.self.now.claim_days) c.requires.tables.days claim ∙ ap (days_by_claim book.bound) (sym next.front);
      replaced = ap (λ v. set (vec_items v) n true) c.note_days.ensures.replaced ∙ ap (λ t. set t n true) c.requires.tables.replaced ∙ one_noted c.args.self.now.count es e n (omega (arith, within, next.long, c.requires.before)) c.in-Some.ensures ∙ ap (replaced_by_number c.args.self.now.count) (sym next.front) ∙ kept;
    }

pub returns-in_default-clause-tables : goal.returns-in_default-clause-tables
returns-in_default-clause-tables g c =
    let book = g.R.Register.meaning c.args.register.now in
    let es = take c.args.before book.entries in
    let e = c.args.entry in
    let next = next_entry book.entries c.args.before e c.requires.next in
    let claim = claim_within book.bound book.entries (c.args.before + 1) e (g.R.Register.sound c.args.register.now).claims c.requires.next in
    let kept = ap (λ k. replaced_by_number k (take (c.args.before + 1) book.entries)) (sym c.note_days.ensures.count) in
    record {
      days = c.note_days.ensures.days ∙ days_noted book.bound es e (vec_items c.args.self.now.claim_days) c.requires.tables.days claim ∙ ap (days_by_claim book.bound) (sym next.front);
      replaced = ap vec_items c.note_days.ensures.replaced ∙ c.requires.tables.replaced ∙ none_noted c.args.self.now.count es e c.in_default.ensures ∙ ap (replaced_by_number c.args.self.now.count) (sym next.front) ∙ kept;
    }
