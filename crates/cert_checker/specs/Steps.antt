-- What a check answers.
use Rattle.std.specs.Prelude.{◌≡◌, ℕ, List, [], Option, Some, Result, Ok, Err, ⊤}
use Rattle.cert_checker.specs.declared.faults.CheckError.{CheckError}
use Rattle.cert_checker.specs.declared.faults.CheckError.TheVariants.{Fault, ReadFault, TooLong}
use Rattle.cert_checker.specs.declared.faults.CheckError.TheVariants.{NoMemory}
use Rattle.cert_checker.specs.declared.checking.Accepted.{Accepted}

-- the error is the one that was to be found; a source that fails and want of memory may come in its
-- place
abbrev pub RejectsAs : Result Accepted CheckError → CheckError → Type 0
RejectsAs wanted (Fault fault) = wanted ≡ Err (Fault fault)
RejectsAs wanted TooLong = wanted ≡ Err TooLong
RejectsAs wanted ReadFault = ⊤
RejectsAs wanted NoMemory = ⊤

-- What a check answers of which this was wanted: at `Ok` what the answer says, with nothing left in
-- the source; at `Err` its fault.
abbrev pub ChecksTo
    : Result Accepted CheckError → Option (List ℕ) → Result Accepted CheckError → Type 0
ChecksTo wanted left (Ok accepted) = (wanted ≡ Ok accepted) × (left ≡ Some [])
ChecksTo wanted left (Err error) = RejectsAs wanted error
