-- What the readers answer.
use Rattle.std.specs.Prelude.{◌≡◌, ℕ, Result, Ok, Err, ⊤}
use Rattle.siting_definitions.specs.Instance.{Instance}
use Rattle.instance_text.specs.declared.faults.InstanceFault.{InstanceFault}
use Rattle.instance_text.specs.declared.faults.InstanceError.{InstanceError}
use Rattle.instance_text.specs.declared.faults.InstanceError.TheVariants.{Fault, NoMemory}
use Rattle.instance_text.specs.declared.faults.LineError.{LineError}
use Rattle.instance_text.specs.declared.faults.LineError.TheVariants.{Fault as LineFault}
use Rattle.instance_text.specs.declared.faults.LineError.TheVariants.{NoMemory as NoLineMemory}

-- what a text says was given: the instance, or the first fault; where memory ran out nothing is
-- said
abbrev pub Gives : Result Instance InstanceError → Result Instance InstanceFault → Type 0
Gives (Ok instance) read = read ≡ Ok instance
Gives (Err (Fault fault)) read = read ≡ Err fault
Gives (Err NoMemory) read = ⊤

-- what a part of a line says was answered
abbrev pub Says : {T : Type 0} → Result T LineError → Result T ℕ → Type 0
Says (Ok value) row = row ≡ Ok value
Says (Err (LineFault number)) row = row ≡ Err number
Says (Err NoLineMemory) row = ⊤

-- what there was became what a line makes of it
abbrev pub TakesLine : {T U : Type 0} → Result T LineError → Result U ℕ → U → Type 0
TakesLine (Ok value) row now = row ≡ Ok now
TakesLine (Err (LineFault number)) row now = row ≡ Err number
TakesLine (Err NoLineMemory) row now = ⊤

-- the error of a text of which this is a line's
abbrev pub error_at : ℕ → LineError → InstanceError
error_at line (LineFault number) = Fault (record { number = number; line = line })
error_at line NoLineMemory = NoMemory
