-- The statuses of a run, and what each says.
use Rattle.std.specs.Prelude.{◌≡◌, ◌≢◌, ℕ, Bool, true, false, is_some, IsTrue, Option, Some, None}
use Rattle.std.specs.Prelude.{Result, Ok, Err}
use Rattle.siting_definitions.specs.declared.Word.{Word}
use Rattle.siting_definitions.specs.declared.Word.TheVariants as words
use Rattle.bsss_cli.specs.declared.status.Status.{Status}
use Rattle.bsss_cli.specs.declared.status.Status.TheVariants.{Solved, Accepted, Made, Polished}
use Rattle.bsss_cli.specs.declared.status.Status.TheVariants.{Near}
use Rattle.bsss_cli.specs.declared.status.Status.TheVariants.{Usage, BadInstance, Rejected}
use Rattle.bsss_cli.specs.declared.status.Status.TheVariants.{ReadFault}
use Rattle.bsss_cli.specs.declared.status.Status.TheVariants.{WriteFault, NoMemory, TooLong}
use Rattle.bsss_cli.specs.declared.status.Status.TheVariants.{PoolFull, Budget, Floor, Empty}
use Rattle.bsss_cli.specs.declared.status.Status.TheVariants.{SmallBudget, SmallPool, NoSite}
use Rattle.bsss_cli.specs.declared.status.Status.TheVariants.{TooMany}

-- how much of the text of a run its sink took
pub data Portion : Type 0 where
  Whole : Portion
  Front : Portion
  Nothing : Portion

pub record Meaning : Type 0 where
  -- the code with which the program ends
  pub code : ℕ
  -- how much of its text the sink took
  pub taken : Portion
  -- whether a command that reads answers it only after the source was read to its end
  pub read_all : Bool
  -- the last word of the answer that was written, where it is an answer's status
  pub word : Option Word

abbrev pub meaning : ℕ → Portion → Bool → Option Word → Meaning
meaning code taken read_all word =
    record { code = code; taken = taken; read_all = read_all; word = word }

-- the table of the statuses
abbrev pub meaning_of : Status → Meaning
meaning_of Solved = meaning 0 Whole true (Some words.Solved)
meaning_of Accepted = meaning 0 Whole true None
meaning_of Made = meaning 0 Whole false None
meaning_of Polished = meaning 0 Whole true None
meaning_of Near = meaning 0 Whole true None
meaning_of Usage = meaning 2 Whole false None
meaning_of (BadInstance number line) = meaning 3 Whole true None
meaning_of (Rejected fault) = meaning 5 Whole false None
meaning_of ReadFault = meaning 6 Nothing false None
meaning_of WriteFault = meaning 7 Front false None
meaning_of NoMemory = meaning 8 Nothing false None
meaning_of TooLong = meaning 9 Whole false None
meaning_of PoolFull = meaning 10 Whole true (Some words.PoolFull)
meaning_of Budget = meaning 11 Whole true (Some words.Budget)
meaning_of Floor = meaning 12 Whole true (Some words.Floor)
meaning_of Empty = meaning 13 Whole true (Some words.Empty)
meaning_of (SmallBudget has wants) = meaning 14 Whole true None
meaning_of (SmallPool has wants) = meaning 15 Whole true None
meaning_of NoSite = meaning 16 Whole true None
meaning_of (TooMany limit) = meaning 17 Whole true None

-- the code with which the program ends
abbrev pub code_of : Status → ℕ
code_of status = (meaning_of status).code

-- a status that a command that reads answers only after the source was read to its end
abbrev pub HasReadAll : Status → Type 0
HasReadAll status = IsTrue (meaning_of status).read_all

-- a status with which nothing was written
abbrev pub HasWrittenNothing : Status → Type 0
HasWrittenNothing status = (meaning_of status).taken ≡ Nothing

-- the status of an answer
abbrev pub IsAnswer : Status → Type 0
IsAnswer status = IsTrue (is_some (meaning_of status).word)

-- a status that may come in place of any other: a fault of the outside, or want of memory
abbrev pub IsOutside : Status → Type 0
IsOutside status = (meaning_of status).taken ≢ Whole

-- the status of an answer that ends with this word
abbrev pub status_of : Word → Status
status_of words.Solved = Solved
status_of words.PoolFull = PoolFull
status_of words.Budget = Budget
status_of words.Floor = Floor
status_of words.Empty = Empty

-- the status of a run that wrote, or failed to write, what it was to write with this status
abbrev pub reported : {T E : Type 0} → Result T E → Status → Status
reported (Ok value) status = status
reported (Err error) status = WriteFault
