-- The figures by which two sheets are compared. Assumes nothing.
use Rattle.std.specs.Prelude.{ℕ, ◌+◌, ◌*◌, ◌%◌, ◌^◌, List, fold, ℤ}
use Rattle.std.specs.Int.{w64}
use Rattle.std.proofs.Common.{of_z}

-- the sum of cells, modulo 2^64
abbrev pub totalled : List ℤ → ℕ
totalled cells = fold (λ s c. (s + of_z w64 c) % 2 ^ 64) 0 cells

-- the checksum of cells: from 0 on, for each cell times the multiplier, and the cell added
abbrev pub mixed : List ℤ → ℕ
mixed cells = fold (λ s c. (s * 1099511628211 % 2 ^ 64 + of_z w64 c) % 2 ^ 64) 0 cells
