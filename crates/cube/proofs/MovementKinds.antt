-- The kind of a movement, one step down a chain of corrections. Assumes nothing.
use Rattle.std.proofs.Common.{◌≡◌, ℕ, suc, ◌+◌, ◌-◌, ◌<◌, List, Some, Option, sym, ap, ◌∙◌, arith}
use Rattle.register.specs.declared.entry.Content.{Content}
use Rattle.register.specs.declared.entry.Entry.{Entry}
use Rattle.register.specs.Entries.{entry_in, kind_from, kind_of, kind_in, kind_within}

module _ (es : List Entry) (number step at : ℕ) (less : step < number) where
  pub kind_next : (o : Option Entry) → o ≡ entry_in es at → kind_within es (number - step) at ≡ kind_from o (kind_within es (number - (step + 1)))
  kind_next o is =
      let on : number - step ≡ suc (number - (step + 1)) = omega arith in
      ap (λ k. kind_within es k at) on ∙ ap (λ x. kind_from x (kind_within es (number - (step + 1)))) (sym is)

  pub kind_content : (e : Entry) (x : Content) → Some e ≡ entry_in es at → e.content ≡ x → kind_within es (number - step) at ≡ kind_in es number → kind_of x (kind_within es (number - (step + 1))) ≡ kind_in es number
  kind_content e x is content inv = sym (kind_next (Some e) is ∙ ap (λ y. kind_of y (kind_within es (number - (step + 1)))) content) ∙ inv
