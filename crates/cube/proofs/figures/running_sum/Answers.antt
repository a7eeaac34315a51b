use Rattle.std.proofs.Common.{◌≡◌, List, [], ◌∷◌, ℤ, pos, ◌+ℤ◌, fold, w64, take, sym, refl, ap, ◌∙◌, rules, tests}
use Rattle.std.proofs.lemmas.Iterator.Consumers.{YieldsList-at, fold_from_yields_List}
use Rattle.std.proofs.lemmas.Iterator.{YieldsList-from_slice, YieldsList-from_take}
use Rattle.std.proofs.lemmas.Int.{int_wrap-add_left, to_z-of_z, wraps}
use Rattle.std.specs.Int.{int_wrap}
use Rattle.cube.proofs.figures.running_sum.Goals as goal

abbrev wrapping : ℤ → ℤ → ℤ
wrapping sum x = int_wrap w64 (sum +ℤ x)

-- a sum that wraps at each cell is the sum that wraps at the end
wrapped : (a : ℤ) (cells : List ℤ) → fold wrapping (int_wrap w64 a) cells ≡ int_wrap w64 (fold ◌+ℤ◌ a cells)
wrapped a [] = refl
wrapped a (x ∷ cells) = ap (λ sum. fold wrapping sum cells) (int_wrap-add_left w64 a x) ∙ wrapped (a +ℤ x) cells

wrap_none : int_wrap w64 (pos 0) ≡ pos 0
unfolding int_wrap
wrap_none = refl

pub returns : goal.returns
returns c =
    let cells = take c.args.n c.args.row.now in
    let folded : c.fold.result ≡ fold wrapping (pos 0) cells =
    fold_from_yields_List _ wrapping (pos 0) c.fold.result c.fold.ensures.ran
    (YieldsList-from_take c.args.n (YieldsList-at c.take.ensures.source (YieldsList-from_slice c.args.row.now cc)) c.take.ensures.count)
    (λ a x b q k. search (rules, tests, wraps)) in
    to_z-of_z w64 c.fold.result (search rules) ∙ folded ∙ ap (λ sum. fold wrapping sum cells) (sym wrap_none) ∙ wrapped (pos 0) cells
