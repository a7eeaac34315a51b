use Rattle.std.proofs.Common.{◌≡◌, ℕ, length, Some, None, ◌∙◌, inl, inr, arith}
use Rattle.std.proofs.lemmas.Bool.{cases_lt}
use Rattle.cube.proofs.KnownEntries.{entry_past}
use Rattle.cube.proofs.known_entries.KnownEntries.add_part.Goals as goal

pub is_replaced-requires : goal.is_replaced-requires
is_replaced-requires g c =
    let es = c.args.self.now.entries in
    let x = c.args.found in
    elim (cases_lt (length es) x.number) [
      | inl past ↦ absurd (let at : Some x.entry ≡ None = c.requires.found ∙ entry_past es x.number past in let no : ◌≡◌ {A = ℕ} 0 1 = cc in omega arith)
      | inr within ↦ within
    ]
