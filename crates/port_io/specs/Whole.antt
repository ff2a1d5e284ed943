-- Reading an input to its end.
use Rattle.std.specs.Prelude.{ℕ, ◌+◌, ◌<◌, ◌≤◌, Result, Ok, Err, ⊤}
use Rattle.port_io.specs.Bytes.{piece_size}
use Rattle.port_io.specs.declared.whole.ReadAll.{ReadAll}
use Rattle.port_io.specs.declared.whole.ReadAll.TheVariants.{TooLong, ReadFault, NoMemory}

-- How many bytes were read where this is answered. An input is too long as soon as more bytes came
-- than the limit, and at most a piece is read past it. A fault, or want of memory, came before
-- that.
abbrev pub ReadsAtMost : {T : Type 0} → ℕ → ℕ → Result T ReadAll → Type 0
ReadsAtMost limit read (Ok bytes) = read ≤ limit
ReadsAtMost limit read (Err TooLong) = (limit < read) × (read ≤ limit + piece_size)
ReadsAtMost limit read (Err ReadFault) = read ≤ limit
ReadsAtMost limit read (Err NoMemory) = read ≤ limit

-- what holds where something else than `ReadFault` is answered
abbrev pub UnlessReadFault : {T : Type 0} → Result T ReadAll → Type 0 → Type 0
UnlessReadFault (Ok bytes) holds = holds
UnlessReadFault (Err TooLong) holds = holds
UnlessReadFault (Err ReadFault) holds = ⊤
UnlessReadFault (Err NoMemory) holds = holds
