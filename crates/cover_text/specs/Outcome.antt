-- What the readers answer.
use Rattle.std.specs.Prelude.{◌≡◌, ℕ, ◌+◌, ◌^◌, ◌<◌, Result, Ok, Err, ⊤}
use Rattle.instance_text.specs.declared.faults.InstanceError.{InstanceError}
use Rattle.instance_text.specs.declared.faults.InstanceError.TheVariants.{Fault as InstanceFaulty, NoMemory as NoInstanceMemory}
use Rattle.cover_check.specs.Cover.{Cover}
use Rattle.cover_text.specs.declared.faults.CoverError.{CoverError}
use Rattle.cover_text.specs.declared.faults.CoverError.TheVariants.{Fault, Instance, NoMemory}
use Rattle.cover_text.specs.declared.faults.LineError.{LineError}
use Rattle.cover_text.specs.declared.faults.LineError.TheVariants.{Fault as LineFault}
use Rattle.cover_text.specs.declared.faults.LineError.TheVariants.{NoMemory as NoLineMemory}

-- what a text says was given: the cover, or the first fault; where memory ran out nothing is said
abbrev pub Gives : Result Cover CoverError → Result Cover CoverError → Type 0
Gives (Ok cover) read = read ≡ Ok cover
Gives (Err NoMemory) read = ⊤
Gives (Err fault) read = read ≡ Err fault

-- what a part of a line says was answered
abbrev pub Says : {T : Type 0} → Result T LineError → Result T ℕ → Type 0
Says (Ok value) row = row ≡ Ok value
Says (Err (LineFault number)) row = row ≡ Err number
Says (Err NoLineMemory) row = ⊤

-- why a part of a line isn't taken
abbrev pub Refuses : {T : Type 0} → LineError → Result T ℕ → Type 0
Refuses (LineFault number) row = row ≡ Err number
Refuses NoLineMemory row = ⊤

-- what there was became what a line makes of it
abbrev pub TakesLine : {T U : Type 0} → Result T LineError → Result U ℕ → U → Type 0
TakesLine (Ok value) row now = row ≡ Ok now
TakesLine (Err (LineFault number)) row now = row ≡ Err number
TakesLine (Err NoLineMemory) row now = ⊤

-- the error of a text of which this is a line's
abbrev pub error_at : ℕ → LineError → CoverError
error_at line (LineFault number) = Fault (record { number = number; line = line })
error_at line NoLineMemory = NoMemory

-- the error of a text whose instance text after a line has this error
abbrev pub error_after : ℕ → InstanceError → CoverError
error_after line (InstanceFaulty fault) =
    Instance (record { number = fault.number; line = line + fault.line })
error_after line NoInstanceMemory = NoMemory

-- the line of its fault in the whole text fits a number
abbrev pub FitsAfter : ℕ → InstanceError → Type 0
FitsAfter line (InstanceFaulty fault) = line + fault.line < 2 ^ 64
FitsAfter line NoInstanceMemory = ⊤
