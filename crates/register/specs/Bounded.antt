-- What a bounded list over lent memory means. Assumes nothing.
use Rattle.std.specs.Prelude.{ℕ, List}

-- the items in order, and how many items there is memory for
pub record Bounded (T : Type 0) : Type 0 where
  pub items : List T
  pub room : ℕ
