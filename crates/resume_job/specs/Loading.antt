-- Loading a valid answer: the parts that it is taken apart into, and what each answer tells.
use Rattle.std.specs.Prelude.{◌≡◌, ℕ, ◌+◌, ◌<◌, ◌≤◌, List, [], length, Option, Some, Result, Ok}
use Rattle.std.specs.Prelude.{Err, ⊤}
use Rattle.port_io.specs.Bytes.{piece_size}
use Rattle.port_io.specs.declared.whole.ReadAll.{ReadAll}
use Rattle.port_io.specs.declared.whole.ReadAll.TheVariants.{TooLong as ReadTooLong}
use Rattle.port_io.specs.declared.whole.ReadAll.TheVariants.{ReadFault as ReadFailed}
use Rattle.port_io.specs.declared.whole.ReadAll.TheVariants.{NoMemory as ReadNoMemory}
use Rattle.siting_definitions.specs.Answer.{Head, IsValid}
use Rattle.siting_definitions.specs.AnswerText.{answer_text}
use Rattle.siting_definitions.specs.declared.TheConstants.{LOAD_LIMIT}
use Rattle.discard_log.specs.declared.node.Node.{Node}
use Rattle.answer_model.specs.Nodes.{nodes_of}
use Rattle.search_answer.specs.Ending.{answer_of}
use Rattle.cert_checker.specs.declared.faults.CheckError.TheVariants.{Fault}
use Rattle.cert_checker.specs.Checking.{checking}
use Rattle.resume_job.specs.declared.loading.LoadError.{LoadError}
use Rattle.resume_job.specs.declared.loading.LoadError.TheVariants.{TooLong, ReadFault, Check}
use Rattle.resume_job.specs.declared.loading.LoadError.TheVariants.{NoMemory}

-- the head and the nodes of a valid answer
pub record AreOfValid (h : Head) (ns : List Node) : Type 0 where
  pub valid : IsValid (answer_of h ns)
  pub nodes : ns ≡ nodes_of (answer_of h ns)

-- the error, of that of a reader
abbrev pub load_error_of : ReadAll → LoadError
load_error_of ReadTooLong = TooLong
load_error_of ReadFailed = ReadFault
load_error_of ReadNoMemory = NoMemory

-- What an error tells of the bytes, and of what is left of them. More of them came than may; or all
-- were read, and they aren't the text of a valid answer. A source that fails and want of memory may
-- come in the place of both.
abbrev pub RefusesAs : List ℕ → Option (List ℕ) → LoadError → Type 0
RefusesAs bytes left TooLong = LOAD_LIMIT < length bytes
RefusesAs bytes left (Check fault) =
    (length bytes ≤ LOAD_LIMIT) × (checking bytes ≡ Err (Fault fault)) × (left ≡ Some [])
RefusesAs bytes left ReadFault = ⊤
RefusesAs bytes left NoMemory = ⊤

-- at `Ok` the bytes are the text of the answer with this head and these nodes, and none are left
abbrev pub LoadsTo : List ℕ → Option (List ℕ) → Result (Head × List Node) LoadError → Type 0
LoadsTo bytes left (Ok loaded) =
    (bytes ≡ answer_text (answer_of loaded.0 loaded.1)) × (left ≡ Some [])
LoadsTo bytes left (Err error) = RefusesAs bytes left error

-- a fault is the first one of some bytes, also where the source tells none
abbrev pub IsOfSome : LoadError → Type 0
IsOfSome TooLong = ⊤
IsOfSome ReadFault = ⊤
IsOfSome (Check fault) =
    (bytes : List ℕ) × (length bytes ≤ LOAD_LIMIT) × (checking bytes ≡ Err (Fault fault))
IsOfSome NoMemory = ⊤

-- How many bytes were read where this is answered: at most as many as may be, but where more came,
-- and then at most a piece more.
abbrev pub LoadReadsAtMost : {T : Type 0} → ℕ → Result T LoadError → Type 0
LoadReadsAtMost read (Ok loaded) = read ≤ LOAD_LIMIT
LoadReadsAtMost read (Err TooLong) = (LOAD_LIMIT < read) × (read ≤ LOAD_LIMIT + piece_size)
LoadReadsAtMost read (Err ReadFault) = read ≤ LOAD_LIMIT
LoadReadsAtMost read (Err (Check fault)) = read ≤ LOAD_LIMIT
LoadReadsAtMost read (Err NoMemory) = read ≤ LOAD_LIMIT

-- what holds where something else than `ReadFault` is answered
abbrev pub UnlessLoadReadFault : {T : Type 0} → Result T LoadError → Type 0 → Type 0
UnlessLoadReadFault (Ok loaded) holds = holds
UnlessLoadReadFault (Err TooLong) holds = holds
UnlessLoadReadFault (Err ReadFault) holds = ⊤
UnlessLoadReadFault (Err (Check fault)) holds = holds
UnlessLoadReadFault (Err NoMemory) holds = holds
