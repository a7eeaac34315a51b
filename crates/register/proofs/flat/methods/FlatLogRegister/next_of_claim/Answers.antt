use Rattle.std.proofs.Common.{◌≡◌, ℕ, ◌-◌, List, length, drop, slice_range, ap, ◌∙◌, arith, rules}
use Rattle.std.proofs.lemmas.List.{take_all, length-drop}
use Rattle.register.specs.declared.entry.Entry.{Entry}
use Rattle.register.proofs.Booked.{next_at, next_past}
use Rattle.register.proofs.flat.methods.FlatLogRegister.next_of_claim.Goals as goal

-- the entries after a number, where the slice begins there
later_is : (es slice later : List Entry) (start after : ℕ) → slice ≡ es → later ≡ slice_range slice start (length slice) → start ≡ after → later ≡ drop after es
later_is es slice later start after same is there =
    is ∙ take_all (length slice - start) (drop start slice) (omega (arith, length-drop start slice)) ∙ ap (drop start) same ∙ ap (λ n. drop n es) there

pub returns-in_err-index : goal.returns-in_err-index
returns-in_err-index c =
    let later = later_is c.args.self.now.entries.items _ _ _ c.args.after c.as_slice.ensures c.in_ok-later.ensures.lookup.0.2 (search rules) in
    c.from_residual-in_err-index.ensures ∙ next_past _ _ c.args.claim c.args.after later c.in_err-index.ensures

pub returns : goal.returns
returns c =
    let later = later_is c.args.self.now.entries.items _ _ _ c.args.after c.as_slice.ensures c.in_ok-later.ensures.lookup.0.2 (search rules) in
    next_at _ _ c.args.claim c.args.after later c.in_ok-index.index c.index-later-index.result c.in_ok-index.ensures c.index-later-index.is
