-- A register takes an entry that passed the checks. Assumes nothing.
use Rattle.std.proofs.Common.{◌≡◌, ℕ, ◌+◌, true, length, Ok, Err, ◌∙◌, arith}
use Rattle.std.proofs.lemmas.Bool.{cond-true, cond-false, ne_eqb}
use Rattle.register.specs.Registers.{Meaning, add_answer, is_claim}
use Rattle.register.specs.declared.entry.Entry.{Entry}
use Rattle.register.specs.declared.fault.AddFault.{AddFault}

pub taken : (book : Meaning) (e : Entry) → is_claim book.bound e.claim ≡ true → (length book.entries ≡ book.capacity → ⊥) → add_answer book e ≡ Ok (length book.entries + 1)
taken book e claim room = cond-true _ _ _ claim ∙ cond-false _ _ _ (ne_eqb (length book.entries) book.capacity room)

pub not_refused : (book : Meaning) (e : Entry) (fault : AddFault) → is_claim book.bound e.claim ≡ true → (length book.entries ≡ book.capacity → ⊥) → Err fault ≡ add_answer book e → ⊥
not_refused book e fault claim room refused = let is = taken book e claim room in let no : ◌≡◌ {A = ℕ} 0 1 = cc in omega arith
