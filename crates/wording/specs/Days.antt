-- How claim days are written. Assumes nothing.
use Rattle.std.specs.Prelude.{ℕ, List, ◌++◌, codes}
use Rattle.values.specs.Texts.{day_text}
use Rattle.values.specs.declared.claim_days.ClaimDays.{ClaimDays}

-- each of the three days, after what it says
abbrev pub days_text : ClaimDays → List ℕ
days_text days = codes "insured from " ++ (day_text days.inception ++ (codes ", loss on " ++ (day_text days.occurrence ++ (codes ", reported on " ++ day_text days.report))))
