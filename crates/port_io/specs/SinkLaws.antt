-- To take no bytes changes nothing, for a sink without a limit and for a `SureSink`.
use Rattle.std.specs.Prelude.{◌≡◌, ℕ, List, [], length, Option, None, Some, Bool, true, false}
use Rattle.std.specs.Prelude.{nat_le, if◌then◌else◌, refl}
use Rattle.std.proofs.Common.{sym, ap, ◌∙◌}
use Rattle.std.proofs.lemmas.List.{append-nil}
use Rattle.port_io.specs.Bytes.{told, Took}
use Rattle.port_io.specs.MemoryPorts.{SureSinkState, sure_taken}

-- a sink without a limit
pub Took-nothing : (bytes : List ℕ) → Took None (Some bytes) (Some bytes) []
Took-nothing bytes = ap Some (sym (append-nil bytes))

-- what a sink tells of these bytes, by whether they fit its room
kept_if : Bool → List ℕ → Option (List ℕ)
kept_if fits bytes = if fits then Some bytes else None

limited-nothing : (room : ℕ) (bytes : List ℕ) (fits : Bool) → nat_le (length bytes) room ≡ fits
    → Took (Some room) (kept_if fits bytes) (kept_if fits bytes) []
unfolding kept_if
limited-nothing room bytes false e = refl
limited-nothing room bytes true e =
    sym
    (ap (told (Some room)) (append-nil bytes) ∙ ap (λ fits. if fits then Some bytes else None) e)

sure_bytes-nothing : (room : ℕ) (bytes : Option (List ℕ)) →
    let s : SureSinkState = record { room = room; bytes = bytes } in
    Took (Some room) (sure_taken s) (sure_taken s) []
unfolding kept_if
sure_bytes-nothing room None = refl
sure_bytes-nothing room (Some bytes) = limited-nothing room bytes (nat_le (length bytes) room) refl

-- a `SureSink`
pub sure-nothing : (s : SureSinkState) → Took (Some s.room) (sure_taken s) (sure_taken s) []
sure-nothing s = sure_bytes-nothing s.room s.bytes
