use Rattle.std.proofs.Common.{rules, ap, ◌∙◌, ◌≡◌, ◌/◌, ◌%◌, true, ◌&&◌}
use Rattle.values.specs.Calendar.{between, month_length}
use Rattle.values.proofs.day.methods.is_day.Goals as goal
use Rattle.values.proofs.day.methods.is_day.Goals.{then-contains, else-contains}

-- the year and the month are in range where the day is looked at
pub returns-then-contains-2 : goal.returns-then-contains-2
returns-then-contains-2 c =
    elim c.if-contains.branch [
      | then-contains w ↦
          let year : true ≡ between 1900 2199 (c.args.number / 10000) = search rules in
          let month : true ≡ between 1 12 (c.args.number / 100 % 100) = search rules in
          let day : c.contains-then-contains-2.result ≡ between 1 (month_length (c.args.number / 10000) (c.args.number / 100 % 100)) (c.args.number % 100) = search rules in
          day ∙ ap (λ b. b && between 1 (month_length (c.args.number / 10000) (c.args.number / 100 % 100)) (c.args.number % 100)) month ∙ ap (λ b. b && (between 1 12 (c.args.number / 100 % 100) && between 1 (month_length (c.args.number / 10000) (c.args.number / 100 % 100)) (c.args.number % 100))) year
      | else-contains w ↦ search rules
    ]
