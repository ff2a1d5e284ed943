-- What contracts see of the ports in memory.
use Rattle.std.specs.Prelude.{ℕ, ◌==◌, Bool, List, Option, Some, option_and_then}
use Rattle.std.specs.List.{list_any}
use Rattle.port_io.specs.Bytes.{told}

-- a `MemSource`: the bytes left, the most that a call gives, the numbers of the calls that fail,
-- and the calls and the faults so far
pub record MemSourceState : Type 0 where
  pub left : List ℕ
  pub chunk : ℕ
  pub fails : List ℕ
  pub calls : ℕ
  pub faults : ℕ

-- a `MemSink`: the bytes taken, the most that it takes in all and in a call, the numbers of the
-- calls that fail, and the calls and the faults so far
pub record MemSinkState : Type 0 where
  pub bytes : List ℕ
  pub room : ℕ
  pub chunk : ℕ
  pub fails : List ℕ
  pub calls : ℕ
  pub faults : ℕ

-- a `SureSink`: its room, and the bytes taken as long as they fit it
pub record SureSinkState : Type 0 where
  pub room : ℕ
  pub bytes : Option (List ℕ)

-- the bytes that a `SureSink` tells
abbrev pub sure_taken : SureSinkState → Option (List ℕ)
sure_taken s = option_and_then (told (Some s.room)) s.bytes

-- whether the call with this number is listed
abbrev pub is_listed : List ℕ → ℕ → Bool
is_listed fails call = list_any (λ listed. listed == call) fails
