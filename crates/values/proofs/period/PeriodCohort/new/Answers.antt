use Rattle.std.proofs.Common.{Err, refl, ap, ◌∙◌, rules}
use Rattle.std.proofs.lemmas.Result.{err_from_is_err_and}
use Rattle.values.proofs.Lawful.{passes, fails}
use Rattle.values.proofs.period.PeriodCohort.new.Goals as goal

pub returns-then-not-is_period : goal.returns-then-not-is_period
returns-then-not-is_period c = fails _ _ _ (search rules)

pub returns-in_err-check_range : goal.returns-in_err-check_range
returns-in_err-check_range c =
    let p = err_from_is_err_and c.from_residual.result c.from_residual.ensures.1 in p.1 ∙ ap Err (p.2 ∙ c.in_err-check_range.ensures.0) ∙ (passes _ _ _ (search rules) _ (fails _ _ _ (search rules)))

pub returns-in_err-check_range-2 : goal.returns-in_err-check_range-2
returns-in_err-check_range-2 c =
    let p = err_from_is_err_and c.from_residual-in_err-check_range-2.result c.from_residual-in_err-check_range-2.ensures.1 in p.1 ∙ ap Err (p.2 ∙ c.in_err-check_range-2.ensures.0) ∙ (passes _ _ _ (search rules) _ (passes _ _ _ (search rules) _ (fails _ _ _ (search rules))))

pub returns-in_err-check_range-3 : goal.returns-in_err-check_range-3
returns-in_err-check_range-3 c =
    let p = err_from_is_err_and c.from_residual-in_err-check_range-3.result c.from_residual-in_err-check_range-3.ensures.1 in p.1 ∙ ap Err (p.2 ∙ c.in_err-check_range-3.ensures.0) ∙ (passes _ _ _ (search rules) _ (passes _ _ _ (search rules) _ (passes _ _ _ (search rules) _ (fails _ _ _ (search rules)))))

pub returns-in_err-check_range-4 : goal.returns-in_err-check_range-4
returns-in_err-check_range-4 c =
    let p = err_from_is_err_and c.from_residual-in_err-check_range-4.result c.from_residual-in_err-check_range-4.ensures.1 in p.1 ∙ ap Err (p.2 ∙ c.in_err-check_range-4.ensures.0) ∙ (passes _ _ _ (search rules) _ (passes _ _ _ (search rules) _ (passes _ _ _ (search rules) _ (passes _ _ _ (search rules) _ (fails _ _ _ (search rules))))))

pub returns-then-base-months-gt-LAST_MONTH : goal.returns-then-base-months-gt-LAST_MONTH
returns-then-base-months-gt-LAST_MONTH c = passes _ _ _ (search rules) _ (passes _ _ _ (search rules) _ (passes _ _ _ (search rules) _ (passes _ _ _ (search rules) _ (passes _ _ _ (search rules) _ (fails _ _ _ (search rules))))))

pub returns : goal.returns
returns c = passes _ _ _ (search rules) _ (passes _ _ _ (search rules) _ (passes _ _ _ (search rules) _ (passes _ _ _ (search rules) _ (passes _ _ _ (search rules) _ (passes _ _ _ (search rules) _ (refl))))))
