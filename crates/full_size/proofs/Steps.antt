-- One step of booking a book, and the claims one after the other. Assumes nothing.
use Rattle.std.proofs.Common.{◌≡◌, ℕ, ◌+◌, ◌<◌, ◌≤◌, List, ◌∷◌, length, get_or, drop, sym, refl, ap, ◌∙◌, subst, add-one, zero, suc, arith}
use Rattle.std.proofs.lemmas.List.{at_drop_more, at_drop_all}
use Rattle.std.specs.List.{fold, range_with_len}
use Rattle.register.specs.declared.entry.Entry.{Entry}
use Rattle.register.specs.Registers.{Meaning, after_add}
use Rattle.full_size.specs.declared.sums.Sums.{Sums}
use Rattle.full_size.specs.Readings.{all_walked, booked, walked}

pub book_on : (m : Meaning) (es : List Entry) (k : ℕ) (e : Entry) → k < length es → e ≡ get_or es k e → booked m (drop k es) ≡ booked (after_add m e) (drop (k + 1) es)
book_on m es k e within is = at_drop_more (booked m) es k e within ∙ ap (λ x. booked m (x ∷ drop (k + 1) es)) (sym is)

pub book_out : (m : Meaning) (es : List Entry) (k : ℕ) → length es ≤ k → booked m (drop k es) ≡ m
book_out m es k past = at_drop_all (booked m) es k past

claim_on : (es : List Entry) (c : ℕ) (s : Sums) → walked es (c + 1) (all_walked es c s) ≡ all_walked es (c + 1) s
claim_on es c s = subst (λ k. walked es k (all_walked es c s) ≡ all_walked es k s) (sym (add-one c)) refl

claims_from : (es : List Entry) (a n : ℕ) (s : Sums) → fold (λ x c. walked es (c + 1) x) (all_walked es a s) (range_with_len a n) ≡ all_walked es (a + n) s
claims_from es a zero s = ap (λ k. all_walked es k s) (omega arith)
claims_from es a (suc n) s =
    ap (λ x. fold (λ y c. walked es (c + 1) y) x (range_with_len (a + 1) n)) (claim_on es a s)
    ∙ claims_from es (a + 1) n s
    ∙ ap (λ k. all_walked es k s) (omega arith)

pub claims_on : (es : List Entry) (n : ℕ) (s : Sums) → fold (λ x c. walked es (c + 1) x) s (range_with_len 0 n) ≡ all_walked es n s
claims_on es n s = claims_from es 0 n s ∙ ap (λ k. all_walked es k s) (omega arith)
