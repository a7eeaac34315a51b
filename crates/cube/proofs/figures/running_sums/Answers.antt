use Rattle.std.proofs.Common.{◌≡◌, ℕ, zero, suc, ◌+◌, List, [], ◌∷◌, ℤ, pos, ◌+ℤ◌, map, length, take, fold, w64, IfOk, vec_items, subst, sym, refl, ap, ◌∙◌, arith, rules, tests}
use Rattle.std.proofs.lemmas.Iterator.{items_from_collect, YieldsList-from_slice}
use Rattle.std.proofs.lemmas.Iterator.Consumers.{YieldsList-from_scan}
use Rattle.std.proofs.lemmas.Int.{int_wrap-add_left, wraps}
use Rattle.std.specs.Int.{int_wrap}
use Rattle.std.specs.List.{range_with_len, scan}
use Rattle.cube.specs.Figures.{running_sums}
use Rattle.cube.proofs.figures.running_sums.Goals as goal

abbrev wrapping : ℤ → ℤ → ℤ
wrapping sum x = int_wrap w64 (sum +ℤ x)

-- the sums of a row, counted from one number or from the next
later : {X : Type 0} (f : ℕ → X) (a n : ℕ) → map f (range_with_len (a + 1) n) ≡ map (λ k. f (suc k)) (range_with_len a n)
later f a zero = refl
later f a (suc n) =
    let next : a + 1 ≡ suc a = omega arith in
    ap (λ k. f k ∷ map f (range_with_len (a + 1 + 1) n)) next ∙ ap (λ xs. f (suc a) ∷ xs) (later f (a + 1) n)

-- sums that wrap at each cell are the sums that wrap at the end
wrapped : (a : ℤ) (cells : List ℤ) → scan wrapping wrapping (int_wrap w64 a) cells ≡ map (λ n. int_wrap w64 (fold ◌+ℤ◌ a (take n cells))) (range_with_len 1 (length cells))
wrapped a [] = refl
wrapped a (x ∷ cells) =
    ap (λ sum. sum ∷ scan wrapping wrapping sum cells) (int_wrap-add_left w64 a x)
    ∙ ap (λ sums. int_wrap w64 (a +ℤ x) ∷ sums) (wrapped (a +ℤ x) cells ∙ sym (later (λ n. int_wrap w64 (fold ◌+ℤ◌ a (take n (x ∷ cells)))) 1 (length cells)))

wrap_none : int_wrap w64 (pos 0) ≡ pos 0
unfolding int_wrap
wrap_none = refl

pub returns : goal.returns
returns c =
    let row = c.args.row.now in
    let all : scan wrapping wrapping (pos 0) row ≡ running_sums row = ap (λ sum. scan wrapping wrapping sum row) (sym wrap_none) ∙ wrapped (pos 0) row in
    let sums = items_from_collect _ c.collect.ensures.ran (YieldsList-from_scan _ wrapping wrapping (pos 0) (YieldsList-from_slice row cc) c.scan.ensures.state c.scan.ensures.closure (λ b x r q d k. search (rules, tests, wraps))) in
    search (rules, subst (λ xs. IfOk c.collect.result (λ v. vec_items v ≡ xs)) all sums)
