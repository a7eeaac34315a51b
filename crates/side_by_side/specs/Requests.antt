-- What a register with a given meaning answers to a request, and what it means afterwards. Assumes nothing.
use Rattle.std.specs.Prelude.{ℕ, ◌+◌, cond, List, [], ◌∷◌, length, ◌==◌}
use Rattle.register.specs.declared.entry.Entry.{Entry}
use Rattle.register.specs.Entries.{entry_in, openings_in}
use Rattle.register.specs.Registers.{Meaning, next_in, add_answer, after_add}
use Rattle.side_by_side.specs.declared.request.Request.{Request}
use Rattle.side_by_side.specs.declared.request.Request.TheVariants as request
use Rattle.side_by_side.specs.declared.request.Answer.{Answer}
use Rattle.side_by_side.specs.declared.request.Answer.TheVariants as answer

-- how many entries of the list are of the claim
abbrev pub count_of : List Entry → (claim : ℕ) → ℕ
count_of [] claim = 0
count_of (e ∷ es) claim = cond (e.claim == claim) 1 0 + count_of es claim

abbrev pub answer_to : Meaning → Request → Answer
answer_to m (request.Add e) = answer.Added (add_answer m e)
answer_to m request.Length = answer.Count (length m.entries)
answer_to m request.Capacity = answer.Count m.capacity
answer_to m request.ClaimBound = answer.Count m.bound
answer_to m request.Openings = answer.Count (openings_in m.entries)
answer_to m (request.Entry n) = answer.Entry (entry_in m.entries n)
answer_to m (request.NextOfClaim claim after) = answer.Numbered (next_in m.entries claim after)
answer_to m (request.EntriesOfClaim claim) = answer.Count (count_of m.entries claim)

-- only adding alters a register
abbrev pub meaning_after : Meaning → Request → Meaning
meaning_after m (request.Add e) = after_add m e
meaning_after m request.Length = m
meaning_after m request.Capacity = m
meaning_after m request.ClaimBound = m
meaning_after m request.Openings = m
meaning_after m (request.Entry n) = m
meaning_after m (request.NextOfClaim claim after) = m
meaning_after m (request.EntriesOfClaim claim) = m
