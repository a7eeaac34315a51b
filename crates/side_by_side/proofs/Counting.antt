-- Counting the entries of a claim. Assumes nothing.
use Rattle.std.proofs.Common.{◌≡◌, ℕ, ◌+◌, ◌≤◌, Bool, true, false, cond, eqb, List, [], ◌∷◌, length, filter, refl, arith}
use Rattle.register.specs.declared.entry.Entry.{Entry}
use Rattle.register.specs.declared.numbered.NumberedEntry.{NumberedEntry}
use Rattle.register.specs.Registers.{claim_entries_after, numbered_from}
use Rattle.side_by_side.specs.Requests.{count_of}

one_more : (b : Bool) (x : NumberedEntry) (xs : List NumberedEntry) (count : ℕ) → length xs ≡ count → length (cond b (x ∷ xs) xs) ≡ cond b 1 0 + count
one_more true x xs count rest = omega arith
one_more false x xs count rest = omega arith

-- as many entries of a claim are yielded as the list has
yielded : (es : List Entry) (claim n : ℕ) → length (filter (λ x. eqb x.entry.claim claim) (numbered_from n es)) ≡ count_of es claim
yielded [] claim n = refl
yielded (e ∷ es) claim n = one_more (eqb e.claim claim) (record { number = n + 1; entry = e }) _ _ (yielded es claim (n + 1))

pub length-claim_entries : (es : List Entry) (claim : ℕ) → length (claim_entries_after es claim 0) ≡ count_of es claim
length-claim_entries es claim = yielded es claim 0

at_most_one : (b : Bool) (count most : ℕ) → count ≤ most → cond b 1 0 + count ≤ most + 1
at_most_one true count most rest = omega arith
at_most_one false count most rest = omega arith

pub count_of_le : (es : List Entry) (claim : ℕ) → count_of es claim ≤ length es
count_of_le [] claim = omega arith
count_of_le (e ∷ es) claim = omega (arith, at_most_one (eqb e.claim claim) (count_of es claim) (length es) (count_of_le es claim))
