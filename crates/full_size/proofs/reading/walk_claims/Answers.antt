use Rattle.std.proofs.Common.{arith, rules, ◌≡◌, ℕ, ◌+◌, ◌∙◌, ◌∷◌, [], refl}
use Rattle.std.proofs.lemmas.Fn.{fold_over}
use Rattle.std.proofs.lemmas.Iterator.{YieldsList-from_range}
use Rattle.std.proofs.iter.Yields.{nat_range_steps}
use Rattle.std.proofs.lemmas.List.Sums.{fold-append}
use Rattle.std.specs.List.{fold, range_with_len}
use Rattle.full_size.specs.declared.sums.Sums.{Sums}
use Rattle.full_size.specs.Readings.{walked}
use Rattle.full_size.proofs.Steps.{claims_on}
use Rattle.full_size.proofs.reading.walk_claims.Goals as goal

pub returns : goal.returns
returns g c =
    let es = (g.R.Register.meaning c.args.register.now).entries in
    let h : Sums → ℕ → Sums = λ s k. walked es (k + 1) s in
    let start = c.args.start in
    let folded : c.fold.result ≡ fold h start (range_with_len 0 c.args.last) =
    fold_over nat_range_steps (λ x. x) _ (λ ks s. s ≡ fold h start ks) _ (λ ks a x b f' j k. let more = fold-append h start ks (x ∷ []) in search rules) _ _ _ _ (YieldsList-from_range 0 c.args.last c.args.last refl (omega arith)).runs refl c.fold.ensures.ran in
    folded ∙ claims_on es c.args.last start
