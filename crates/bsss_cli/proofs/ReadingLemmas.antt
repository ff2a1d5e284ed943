-- What is said of bytes that were read, and how much was read.
use Rattle.std.proofs.Common.{◌≡◌, ◌≢◌, ℕ, ◌+◌, ◌-◌, ◌≤◌, List, Option, None, Some, IfSome, refl, ap, subst, ◌∙◌, arith}
use Rattle.std.specs.Prelude.{length}
use Rattle.std.proofs.lemmas.List.{length-append}
use Rattle.port_io.specs.Bytes.{HasRest}
use Rattle.bsss_cli.specs.declared.status.Status.{Status}
use Rattle.bsss_cli.specs.declared.status.Status.TheVariants.{ReadFault, NoMemory}
use Rattle.bsss_cli.specs.Status.{Nothing, meaning_of}
use Rattle.bsss_cli.specs.Outcome.{Promise, OfBytes, ReadsWithin, HasRead}

-- ---- what is said of bytes
pub OfBytes-map : (told : Option (List ℕ)) (P Q : List ℕ → Type 0)
    → ((bytes : List ℕ) → P bytes → Q bytes) → OfBytes told P → OfBytes told Q
OfBytes-map None P Q f h = (h.0, f h.0 h.1)
OfBytes-map (Some bytes) P Q f h = f bytes h

-- what is said of bytes that were read is said of those that a source told
pub OfBytes-told : (bytes : List ℕ) (told : Option (List ℕ)) (P : List ℕ → Type 0)
    → IfSome told (λ all. bytes ≡ all) → P bytes → OfBytes told P
OfBytes-told bytes None P e h = (bytes, h)
OfBytes-told bytes (Some all) P e h = subst P e h

-- ---- how much was read
-- what was read within the limit, whatever the status
pub ReadsWithin-within : (limit : ℕ) (got : List ℕ) (status : Status) → length got ≤ limit
    → ReadsWithin limit got status
ReadsWithin-within limit got ReadFault few = few
ReadsWithin-within limit got NoMemory few = few
ReadsWithin-within limit got status few = omega (arith, few)

-- what was read at most a piece past it, where there was something to write
pub ReadsWithin-past : (limit : ℕ) (got : List ℕ) (status : Status)
    → (meaning_of status).taken ≢ Nothing → length got ≤ limit + 4096
    → ReadsWithin limit got status
ReadsWithin-past limit got ReadFault something few = absurd (something refl)
ReadsWithin-past limit got NoMemory something few = absurd (something refl)
ReadsWithin-past limit got status something few = few

-- What a reading to the end read, where the stop of its answer tells how many bytes.
pub has_read : (p : Promise) (Stops : ℕ → Type 0) (before after : Option (List ℕ))
    (status : Status) → IfSome before (λ xs. HasRest xs after)
    → IfSome before (λ xs. IfSome after (λ ys. Stops (length xs - length ys)))
    → ((got : List ℕ) → Stops (length got) → p.stops got after status)
    → IfSome before (λ xs. HasRead p before after status)
has_read p Stops None after status rest stop stops = tt
has_read p Stops (Some xs) None status rest stop stops = absurd rest.rest
has_read p Stops (Some xs) (Some ys) status rest stop stops =
    let parts : length xs ≡ length rest.read + length ys =
    ap length rest.rest ∙ length-append rest.read ys in
    let count : length xs - length ys ≡ length rest.read = omega (arith, parts) in
    record {
      got = rest.read;
      consumed = rest.rest;
      stops = stops rest.read (subst Stops count stop);
    }
