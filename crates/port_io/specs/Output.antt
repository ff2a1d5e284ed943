-- What contracts see of an `Out`, and the one contract of all calls that write to it.
use Rattle.std.specs.Prelude.{◌≡◌, ℕ, ◌+◌, ◌<◌, Bool, false, List, [], ◌++◌, length, Option, Result}
use Rattle.std.specs.Prelude.{OnOk, OnErr, IsTrue, is_err}
use Rattle.std.specs.Fmt.{signed_decimal}
use Rattle.port_io.specs.Faults.{HasCause}
use Rattle.port_io.specs.Bytes.{piece_size, Took, TookFront}
use Rattle.port_io.specs.declared.buffered.Out.{Out}
use Rattle.port_io.specs.declared.buffered.Piece.{Piece}
use Rattle.port_io.specs.declared.buffered.Piece.TheVariants.{Text, Number}

-- what a sink shows: its room, the bytes it tells, its count of faults, and whether that stays in
-- each call that doesn't fail
pub record SinkView : Type 0 where
  pub room : Option ℕ
  pub taken : Option (List ℕ)
  pub faults : ℕ
  pub is_strict : Bool

-- the view of a sink with these members
abbrev pub sink_view : {K : Type 0} → (K → Option ℕ) → (K → Option (List ℕ)) → (K → ℕ) → Bool
    → K → SinkView
sink_view room taken faults is_strict sink = record {
  room = room sink;
  taken = taken sink;
  faults = faults sink;
  is_strict = is_strict;
}

-- an `Out`: the view of the sink behind it, the bytes that wait in its buffer, and whether a call
-- on it failed
pub record Stage : Type 0 where
  pub sink : SinkView
  pub waiting : List ℕ
  pub failed : Bool

-- the stage of an `Out` over a sink with these members
abbrev pub stage : {K : Type 0} → (K → Option ℕ) → (K → Option (List ℕ)) → (K → ℕ) → Bool
    → Out K → Stage
stage room taken faults is_strict out = record {
  sink = sink_view room taken faults is_strict out.sink.now;
  waiting = out.waiting;
  failed = out.failed;
}

-- the stage of a new `Out` over a sink
abbrev pub fresh : SinkView → Stage
fresh sink = record { sink = sink; waiting = []; failed = false }

-- whether a call on the `Out` failed
abbrev pub has_failed : {K : Type 0} → Out K → Bool
has_failed out = out.failed

-- no call on the `Out` failed
abbrev pub IsOpen : {K : Type 0} → Out K → Type 0
IsOpen out = out.failed ≡ false

-- which `&mut` to a sink the `Out` writes to
abbrev pub sink_of : {K : Type 0} → Out K → ℕ
sink_of out = out.sink.ghost_name

-- the bytes went on behind those that waited: the sink took a front of both, and the rest waits
pub record Puts (room : Option ℕ) (before : Option (List ℕ)) (waited : List ℕ)
    (after : Option (List ℕ)) (waiting bytes : List ℕ) : Type 0 where
  pub sent : List ℕ
  pub parts : waited ++ bytes ≡ sent ++ waiting
  pub took : Took room before after sent

-- Calls that write to a sink: it is as strict as before, and its count stayed if it is strict and
-- no call failed.
pub record IsHeard {T E : Type 0} (before after : SinkView) (result : Result T E) : Type 0 where
  pub same : after.is_strict ≡ before.is_strict
  pub quiet : IsTrue before.is_strict → OnOk result (after.faults ≡ before.faults)

-- nothing went to the sink: the bytes wait behind those that waited
pub record Waits {T E : Type 0} (before after : Stage) (bytes : List ℕ) (result : Result T E)
    : Type 0 where
  pub ok : is_err result ≡ false
  pub sink : after.sink ≡ before.sink
  pub waiting : after.waiting ≡ before.waiting ++ bytes

-- What a call on an `Out` does that puts these bytes: at `Ok` all went on; at `Err`, which only a
-- fault of the sink makes, the sink took a front of what was put, and the `Out` is failed from then
-- on. As long as fewer bytes wait than the buffer holds, nothing goes to the sink.
pub record Put {T E : Type 0} (before after : Stage) (bytes : List ℕ) (result : Result T E)
    : Type 0 where
  pub ok : OnOk result
      (Puts before.sink.room before.sink.taken before.waiting after.sink.taken after.waiting bytes)
  pub err : OnErr result
      (TookFront before.sink.room before.sink.taken after.sink.taken (before.waiting ++ bytes))
  pub failed : after.failed ≡ is_err result
  pub room : after.sink.room ≡ before.sink.room
  pub cause : HasCause before.sink.faults after.sink.faults result
  pub heard : IsHeard before.sink after.sink result
  pub lazy : length before.waiting + length bytes < piece_size → Waits before after bytes result

-- The one contract of the calls on an `Out` over a sink with these members: these bytes were put,
-- and it still writes to the same sink.
pub record PutOn {K T E : Type 0}
    (room : K → Option ℕ) (taken : K → Option (List ℕ)) (faults : K → ℕ) (is_strict : Bool)
    (before after : Out K) (bytes : List ℕ) (result : Result T E) : Type 0 where
  pub same : sink_of after ≡ sink_of before
  pub put : Put (stage room taken faults is_strict before) (stage room taken faults is_strict after)
      bytes result

-- what a call does that writes these bytes to a sink: at `Ok` the sink took all of them, at `Err`,
-- which only a fault of the sink makes, a front of them
pub record Wrote {T E : Type 0} (before after : SinkView) (bytes : List ℕ) (result : Result T E)
    : Type 0 where
  pub ok : OnOk result (Took before.room before.taken after.taken bytes)
  pub err : OnErr result (TookFront before.room before.taken after.taken bytes)
  pub room : after.room ≡ before.room
  pub cause : HasCause before.faults after.faults result
  pub heard : IsHeard before after result

-- the bytes of a piece
abbrev pub piece_text : Piece → List ℕ
piece_text (Text bytes) = bytes.now
piece_text (Number n) = signed_decimal n
