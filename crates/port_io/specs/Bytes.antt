-- What reads and writes do to the bytes that a source has left and a sink has taken, where they are
-- told.
use Rattle.std.specs.Prelude.{◌≡◌, ◌↔◌, ℕ, ◌≤◌, List, [], ◌++◌, length, take, Option, None, Some}
use Rattle.std.specs.Prelude.{IfSome, Result, MatchResult, nat_le, if◌then◌else◌}
use Rattle.std.specs.Io.KnownBytes.{Consumes, Keeps}
use Rattle.port_io.specs.declared.buffer.TheConstants.{BUFFER_SIZE}

-- how many bytes are read at once or wait to be written, at most
abbrev pub piece_size : ℕ
piece_size = BUFFER_SIZE

-- `read(buf)` gave the first n bytes left at `Ok(n)`, none exactly where nothing was left, and left
-- all at `Err`; a source that tells goes on telling
abbrev pub Reads : {E : Type 0} → Option (List ℕ) → Option (List ℕ) → Result ℕ E → List ℕ → Type 0
Reads before after result buf = MatchResult result
    (λ n. Consumes before after (take n buf) × IfSome before (λ left. (n ≡ 0) ↔ (left ≡ [])))
    (λ _. Keeps before after)

-- a source still tells, and some bytes were read from the front of what it had left
pub record HasRest (before : List ℕ) (after : Option (List ℕ)) : Type 0 where
  pub read : List ℕ
  pub rest : Consumes (Some before) after read

-- what a sink tells that took these bytes in all and tells at most `room` of them; None is no limit
abbrev pub told : Option ℕ → List ℕ → Option (List ℕ)
told None bytes = Some bytes
told (Some room) bytes = if nat_le (length bytes) room then Some bytes else None

-- the sink took these bytes: they follow what it told before, as far as its room goes; one that
-- told nothing tells nothing
abbrev pub Took : Option ℕ → Option (List ℕ) → Option (List ℕ) → List ℕ → Type 0
Took room (Some before) after bytes = after ≡ told room (before ++ bytes)
Took room None after bytes = after ≡ None

-- `write(piece)` took the first n bytes of the piece at `Ok(n)`, and nothing at `Err`
abbrev pub Writes : {E : Type 0} → Option ℕ → Option (List ℕ) → Option (List ℕ) → Result ℕ E
    → List ℕ → Type 0
Writes room before after result piece =
    MatchResult result (λ n. Took room before after (take n piece)) (λ _. after ≡ before)

-- the sink took some prefix of these bytes
pub record TookFront (room : Option ℕ) (before after : Option (List ℕ)) (bytes : List ℕ) :
    Type 0 where
  pub count : ℕ
  pub within : count ≤ length bytes
  pub took : Took room before after (take count bytes)
