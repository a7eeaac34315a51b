use Rattle.std.proofs.Common.{subst}
use Rattle.samples.proofs.arguments.setting.Goals as goal

pub returns-in-Some : goal.returns-in-Some
returns-in-Some g c =
    let read = subst (λ bs. g.T.FromStr.from_str_gives bs c.parse.result) c.deref.ensures c.parse.ensures.value in
    rw c.in-Some.is (c.parse.result, read, c.ok.ensures.value)
