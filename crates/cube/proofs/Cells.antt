-- The cells of a sheet after shares are added to it. Assumes nothing.
use Rattle.std.proofs.Common.{◌≡◌, ℕ, ◌<◌, cond, eqb, List, [], ◌∷◌, map, length, get_or, replicate, ℤ, pos, ◌+ℤ◌, sym, refl, ap, ◌∙◌, inl, inr, arith, w64}
use lib.IntN.{+ℤ_assoc, +ℤ_idl, +ℤ_idr}
use Rattle.std.proofs.lemmas.List.FromFn.{fill_by_all, get_or-map-range_with_len, length-map-range_with_len}
use Rattle.std.proofs.lemmas.List.{get_or-replicate, get_or-set_other, get_or-set_same, length-replicate, length-set}
use Rattle.std.proofs.lemmas.Int.{int_wrap-add_left}
use Rattle.std.proofs.lemmas.Bool.{cases_eq, cond-true, cond-false, eq-eqb, ne_eqb}
use Rattle.std.specs.List.{range_with_len}
use Rattle.std.specs.Int.{int_wrap}
use Rattle.cube.specs.Sheets.{Share, added, added_all}
use Rattle.cube.specs.Triangles.{sum_at}

-- a sheet of n cells, by what each is before wrapping
abbrev pub cells_of : ℕ → (ℕ → ℤ) → List ℤ
cells_of n f = map (λ k. int_wrap w64 (f k)) (range_with_len 0 n)

pub cells_same : (n : ℕ) (f g : ℕ → ℤ) → ((k : ℕ) → f k ≡ g k) → cells_of n f ≡ cells_of n g
cells_same n f g same = fill_by_all (λ k. int_wrap w64 (g k)) (cells_of n f) n (pos 0) (length-map-range_with_len (λ k. int_wrap w64 (f k)) 0 n)
    (λ k h. get_or-map-range_with_len (λ j. int_wrap w64 (f j)) 0 n k k (pos 0) h (omega arith) ∙ ap (int_wrap w64) (same k))

pub cell_at : (n : ℕ) (f : ℕ → ℤ) (k : ℕ) → k < n → get_or (cells_of n f) k (pos 0) ≡ int_wrap w64 (f k)
cell_at n f k h = get_or-map-range_with_len (λ j. int_wrap w64 (f j)) 0 n k k (pos 0) h (omega arith)

-- one share more
added_one : (n : ℕ) (f : ℕ → ℤ) (share : Share) → added (cells_of n f) share ≡ cells_of n (λ k. f k +ℤ cond (eqb share.cell k) share.amount (pos 0))
added_one n f share =
    fill_by_all (λ k. int_wrap w64 (f k +ℤ cond (eqb share.cell k) share.amount (pos 0))) (added (cells_of n f) share) n (pos 0)
    (length-set (cells_of n f) share.cell (int_wrap w64 (get_or (cells_of n f) share.cell (pos 0) +ℤ share.amount)) ∙ length-map-range_with_len (λ k. int_wrap w64 (f k)) 0 n)
    each
  where
    each : (k : ℕ) → k < n → get_or (added (cells_of n f) share) k (pos 0) ≡ int_wrap w64 (f k +ℤ cond (eqb share.cell k) share.amount (pos 0))
    each k h =
        elim (cases_eq k share.cell) [
          | inl here ↦
              let long : share.cell < length (cells_of n f) = omega (arith, length-map-range_with_len (λ j. int_wrap w64 (f j)) 0 n) in
              ap (λ j. get_or (added (cells_of n f) share) j (pos 0)) here
              ∙ get_or-set_same (cells_of n f) share.cell (int_wrap w64 (get_or (cells_of n f) share.cell (pos 0) +ℤ share.amount)) (pos 0) long
              ∙ ap (λ z. int_wrap w64 (z +ℤ share.amount)) (ap (λ j. get_or (cells_of n f) j (pos 0)) (sym here) ∙ cell_at n f k h)
              ∙ int_wrap-add_left w64 (f k) share.amount
              ∙ ap (λ z. int_wrap w64 (f k +ℤ z)) (sym (cond-true (eqb share.cell k) share.amount (pos 0) (eq-eqb share.cell k (sym here))))
          | inr other ↦
              get_or-set_other (cells_of n f) share.cell k (int_wrap w64 (get_or (cells_of n f) share.cell (pos 0) +ℤ share.amount)) (pos 0) other
              ∙ cell_at n f k h
              ∙ ap (int_wrap w64) (sym (+ℤ_idr (f k)))
              ∙ ap (λ z. int_wrap w64 (f k +ℤ z)) (sym (cond-false (eqb share.cell k) share.amount (pos 0) (ne_eqb share.cell k (λ same. other (sym same)))))
        ]

-- shares are added cell by cell
pub added_cells : (n : ℕ) (f : ℕ → ℤ) (shares : List Share) → added_all (cells_of n f) shares ≡ cells_of n (λ k. f k +ℤ sum_at k shares)
added_cells n f [] = cells_same n f (λ k. f k +ℤ pos 0) (λ k. sym (+ℤ_idr (f k)))
added_cells n f (share ∷ shares) =
    ap (λ sheet. added_all sheet shares) (added_one n f share)
    ∙ added_cells n (λ k. f k +ℤ cond (eqb share.cell k) share.amount (pos 0)) shares
    ∙ cells_same n _ _ (λ k. +ℤ_assoc (f k) (cond (eqb share.cell k) share.amount (pos 0)) (sum_at k shares))

pub cleared_cells : (n : ℕ) → replicate n (pos 0) ≡ cells_of n (λ _. pos 0)
unfolding int_wrap
cleared_cells n = fill_by_all (λ _. int_wrap w64 (pos 0)) (replicate n (pos 0)) n (pos 0) (length-replicate n (pos 0)) (λ k h. get_or-replicate n k (pos 0) (pos 0) h ∙ refl)

-- a cleared sheet with shares added has in each cell the sum of what falls into it
pub drawn_cells : (n : ℕ) (shares : List Share) → added_all (replicate n (pos 0)) shares ≡ map (λ k. int_wrap w64 (sum_at k shares)) (range_with_len 0 n)
drawn_cells n shares =
    ap (λ sheet. added_all sheet shares) (cleared_cells n) ∙ added_cells n (λ _. pos 0) shares
    ∙ cells_same n (λ k. pos 0 +ℤ sum_at k shares) (λ k. sum_at k shares) (λ k. +ℤ_idl (sum_at k shares))
