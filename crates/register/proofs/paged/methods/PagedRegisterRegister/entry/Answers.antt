use Rattle.std.proofs.Common.{rules}
use Rattle.std.proofs.lemmas.Option.{slice_get-map}
use Rattle.register.proofs.paged.methods.PagedRegisterRegister.entry.Goals as goal

pub returns : goal.returns
returns c = search (rules, slice_get-map)
