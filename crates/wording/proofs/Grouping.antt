-- A number in groups of three digits, and zeros before digits. Assumes nothing.
use Rattle.std.proofs.Common.{◌≡◌, ℕ, zero, suc, ◌-◌, ◌/◌, ◌%◌, ◌^◌, ◌<◌, ◌≤◌, false, List, [], ◌∷◌, ◌++◌, ap, ◌∙◌, sym, arith, append-nil, nat_lt}
use Rattle.std.specs.Prelude.{if◌then◌else◌}
use Rattle.std.proofs.lemmas.Bool.Decides.{nat_tests}
use Rattle.std.proofs.lemmas.Grind.{common_steps}
use Rattle.std.specs.Fmt.{char_count, decimal, format_spec, padded_integral}
use Rattle.wording.specs.Money.{grouped_text, grouped_within, zero_padded}

-- what `{n:0width}` writes
pub zeros_before : (width n : ℕ) → padded_integral (format_spec 32 0 4 width (2 ^ 64 - 1)) false [] (decimal n) ≡ zero_padded width n
unfolding padded_integral char_count
zeros_before width n = first_of (grind (arith, common_steps), simp append-nil)

pub grouped_small : (n : ℕ) → n < 1000 → grouped_text n ≡ decimal n
unfolding grouped_within
grouped_small n h = grind (arith, nat_tests)

-- one group more than needed makes no difference
enough : (groups n : ℕ) → n < 1000 ^ suc groups → grouped_within (suc groups) n ≡ grouped_within groups n
unfolding grouped_within
enough zero n h = grind (arith, nat_tests)
enough (suc groups) n h = ap (λ (front : List ℕ). if nat_lt n 1000 then decimal n else front ++ (44 ∷ zero_padded 3 (n % 1000))) (enough groups (n / 1000) (omega arith))

with_group : (groups n : ℕ) → 1000 ≤ n → grouped_within (suc groups) n ≡ grouped_within groups (n / 1000) ++ (44 ∷ zero_padded 3 (n % 1000))
unfolding grouped_within
with_group groups n long = grind (arith, nat_tests)

pub grouped_more : (n : ℕ) → n < 2 ^ 64 → 1000 ≤ n → grouped_text n ≡ grouped_text (n / 1000) ++ (44 ∷ zero_padded 3 (n % 1000))
grouped_more n small long = with_group 5 n long ∙ ap (λ (front : List ℕ). front ++ (44 ∷ zero_padded 3 (n % 1000))) (sym (enough 5 (n / 1000) (omega arith)))
