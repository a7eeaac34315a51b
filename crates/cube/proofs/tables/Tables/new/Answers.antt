use Rattle.std.proofs.Common.{◌+◌, false, [], None, refl, ◌∙◌}
use Rattle.register.specs.Entries.{claim_days_in}
use Rattle.cube.specs.Tables.{is_replaced_in}
use Rattle.cube.proofs.Noted.{counted_one, none_replaced, only_none}
use Rattle.cube.proofs.tables.Tables.new.Goals as goal

pub returns-clause-tables : goal.returns-clause-tables
returns-clause-tables c =
    record {
      days = c.in_ok-claim_days.ensures.items_if_clones_equal (only_none _ (λ _ no. no)) ∙ counted_one (claim_days_in []) None (λ _. refl) 0 (c.args.claim_bound + 1);
      replaced = c.in_ok-replaced.ensures.items_if_clones_equal (λ y is. is) ∙ counted_one (is_replaced_in []) false none_replaced 0 (c.args.count + 1);
    }
