-- The pages that a paged register needs. Assumes nothing.
use Rattle.std.specs.Prelude.{ℕ, ◌+◌, ◌*◌, ◌/◌}

-- so many pages of 16 slots that the entries surely fit, where every claim may leave up to 15 slots of its last page unused
abbrev pub pages_needed : (entries claims : ℕ) → ℕ
pages_needed entries claims = (entries + 15 * claims + 15) / 16
