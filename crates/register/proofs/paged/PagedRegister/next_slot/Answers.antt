use Rattle.std.proofs.Common.{◌≡◌, Option, None, Some, rules}
use Rattle.std.specs.Option.{UnwrapsOrElse, unwrap_or}
use Rattle.std.proofs.lemmas.Option.{unwrap_or-slice_get}
use Rattle.register.specs.declared.cards.PageCard.{PageCard}
use Rattle.register.proofs.paged.PagedRegister.next_slot.Goals as goal

-- a value, or else a default, is the value or the one default that there is
or_default : {T : Type 0} (o : Option T) (P : T → Type 0) (x d : T) → ((y : T) → P y → y ≡ d) → UnwrapsOrElse o P x → x ≡ unwrap_or o d
or_default None P x d only is = only x is
or_default (Some y) P x d only is = is

pub returns : goal.returns
returns c =
    let none : PageCard = record { next = 0 } in
    let page = or_default c.get.result _ c.unwrap_or_default-page.result none (λ y is. search rules) c.unwrap_or_default-page.ensures in
    search (rules, page, unwrap_or-slice_get)
