-- The table of worked figures: those of the values, and the capacities of paged registers. Assumes nothing.
use Rattle.std.specs.Prelude.{Bool, List, [], ◌∷◌, ◌++◌, ◌==◌}
pub use Rattle.values.specs.Figures.{every}
use Rattle.values.specs.Figures as values
use Rattle.register.specs.Pages.{paged_capacity}

-- 64 pages, 1,024 slots and 600 places take 544 entries of 32 claims, and none of 69 claims
abbrev capacities : List Bool
capacities = (paged_capacity 64 1024 32 600 == 544) ∷ (paged_capacity 64 1024 69 600 == 0) ∷ []

abbrev pub figures : List Bool
figures = values.figures ++ capacities
