-- The code of each status.
use Rattle.std.specs.Prelude.{ℕ}
use Rattle.cover_cli.specs.declared.status.Verdict.TheVariants.{Covered, BadCover, BadInstance, Uncovered, TooLong}
use Rattle.cover_cli.specs.declared.status.Status.{Status}
use Rattle.cover_cli.specs.declared.status.Status.TheVariants.{Said, ReadFault, WriteFault, NoMemory}

-- the table of the statuses
abbrev pub code_of : Status → ℕ
code_of (Said Covered) = 0
code_of (Said (BadCover fault)) = 3
code_of (Said (BadInstance fault)) = 3
code_of (Said (Uncovered fault)) = 5
code_of (Said TooLong) = 9
code_of ReadFault = 6
code_of WriteFault = 7
code_of NoMemory = 8
