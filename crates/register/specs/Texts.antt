-- What faults are written as: bytes of text. Assumes nothing.
use Rattle.std.specs.Prelude.{ℕ, List, codes}
use Rattle.register.specs.declared.fault.AddFault.{AddFault}
use Rattle.register.specs.declared.fault.AddFault.TheVariants.{NoSuchClaim, Full}

abbrev pub add_fault_text : AddFault → List ℕ
add_fault_text NoSuchClaim = codes "no such claim"
add_fault_text Full = codes "the register is full"
