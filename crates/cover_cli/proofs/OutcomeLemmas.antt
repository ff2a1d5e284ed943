-- From what was written to what is said, and from what is said to what it tells.
use Rattle.std.proofs.Common.{◌≡◌, ◌⊎◌, ℕ, ◌≤◌, List, length, Option, None, Some, Result, Ok, Err, inl, inr, refl, subst, arith}
use Rattle.port_io.specs.Output.{SinkView, Wrote}
use Rattle.cover_check.specs.Cover.{Cover, IsCover}
use Rattle.cover_check.specs.Verdict.{Tells}
use Rattle.cover_check.proofs.CoverLaw.{cover_permits}
use Rattle.cover_check.proofs.VerdictLemmas.{untold}
use Rattle.cover_text.specs.declared.faults.CoverError.{CoverError}
use Rattle.cover_text.specs.declared.faults.CoverError.TheVariants.{Fault, Instance}
use Rattle.cover_text.specs.Reading.{reading}
use Rattle.cover_cli.specs.declared.TheConstants.{TEXT_LIMIT}
use Rattle.cover_cli.specs.declared.status.Verdict.{Verdict}
use Rattle.cover_cli.specs.declared.status.Verdict.TheVariants.{Covered, BadCover, BadInstance, Uncovered, TooLong}
use Rattle.cover_cli.specs.declared.status.Status.{Status}
use Rattle.cover_cli.specs.declared.status.Status.TheVariants.{Said, ReadFault, WriteFault, NoMemory}
use Rattle.cover_cli.specs.Texts.{text_of}
use Rattle.cover_cli.specs.Outcome.{ReadsAs, Judges, OfBytes, Answers, Writes, Says, Permits, PermitsWanted, IsOutside, Completes}

-- ---- what was said
pub says_whole : {T E : Type 0} {before after : SinkView} (verdict : Verdict) (v : T) → Wrote {T = T} {E = E} before after (text_of verdict) (Ok v) → Says before after verdict (Said verdict)
says_whole verdict v wrote =
    record { outcome = inl (refl, wrote.ok); room = wrote.room; later = wrote.cause.later; heard = λ strict e. wrote.heard.quiet strict }

pub says_front : {T E : Type 0} {before after : SinkView} (verdict : Verdict) (error : E) → Wrote {T = T} {E = E} before after (text_of verdict) (Err error) → Says before after verdict WriteFault
says_front verdict error wrote =
    record { outcome = inr (refl, wrote.err, wrote.cause.failed); room = wrote.room; later = wrote.cause.later; heard = λ strict e. absurd (e refl) }

-- ---- what `covered` says
permits_of : (bytes : List ℕ) → ReadsAs bytes IsCover → ReadsAs bytes Permits
permits_of bytes r =
    record { short = r.short; cover = r.cover; read = r.read; limits = r.limits; holds = λ p within limit. cover_permits r.cover p r.limits r.holds within limit }

permits_bytes : (told : Option (List ℕ)) → OfBytes told (λ bytes. ReadsAs bytes IsCover) → OfBytes told (λ bytes. ReadsAs bytes Permits)
permits_bytes None h = (h.0, permits_of h.0 h.1)
permits_bytes (Some bytes) h = permits_of bytes h

covers_of : (told : Option (List ℕ)) → Answers told Covered → OfBytes told (λ bytes. ReadsAs bytes IsCover)
covers_of None h = h
covers_of (Some bytes) h = h

pub permits_wanted : (told : Option (List ℕ)) (before after : SinkView) (status : Status) → Writes told before after status → PermitsWanted told status
permits_wanted told before after (Said Covered) h = permits_bytes told (covers_of told h.0)
permits_wanted told before after (Said (BadCover fault)) h = tt
permits_wanted told before after (Said (BadInstance fault)) h = tt
permits_wanted told before after (Said (Uncovered fault)) h = tt
permits_wanted told before after (Said TooLong) h = tt
permits_wanted told before after ReadFault h = tt
permits_wanted told before after WriteFault h = tt
permits_wanted told before after NoMemory h = tt

-- ---- what must be said of a cover
one_reading : (r : Result Cover CoverError) (c : Cover) (error : CoverError) → r ≡ Ok c → r ≡ Err error → ⊥
one_reading (Ok d) c error h k = absurd cc
one_reading (Err e) c error h k = absurd cc

same_cover : (r : Result Cover CoverError) (c d : Cover) → r ≡ Ok c → r ≡ Ok d → c ≡ d
same_cover (Ok e) c d h k = cc
same_cover (Err e) c d h k = absurd cc

only_covered : (bytes : List ℕ) (c : Cover) → length bytes ≤ TEXT_LIMIT → reading bytes ≡ Ok c → IsCover c → (verdict : Verdict) → Judges bytes verdict → Said verdict ≡ Said Covered
only_covered bytes c short read cover Covered judged = refl
only_covered bytes c short read cover (BadCover fault) judged = absurd (one_reading (reading bytes) c (Fault fault) read judged.1)
only_covered bytes c short read cover (BadInstance fault) judged = absurd (one_reading (reading bytes) c (Instance fault) read judged.1)
only_covered bytes c short read cover (Uncovered fault) judged =
    absurd (untold c fault cover (subst (λ (d : Cover). Tells d (Some fault)) (same_cover (reading bytes) judged.cover c judged.read read) judged.holds))
only_covered bytes c short read cover TooLong judged = absurd (omega (arith, short, judged))

must_say : (bytes : List ℕ) (before after : SinkView) (c : Cover) → length bytes ≤ TEXT_LIMIT → reading bytes ≡ Ok c → IsCover c → (status : Status) → Writes (Some bytes) before after status → (status ≡ Said Covered) ⊎ IsOutside status
must_say bytes before after c short read cover (Said verdict) h = inl (only_covered bytes c short read cover verdict h.0)
must_say bytes before after c short read cover ReadFault h = inr tt
must_say bytes before after c short read cover WriteFault h = inr tt
must_say bytes before after c short read cover NoMemory h = inr tt

pub completes : (told : Option (List ℕ)) (before after : SinkView) (status : Status) → Writes told before after status → Completes told status
completes None before after status h = tt
completes (Some bytes) before after status h = λ c short read cover. must_say bytes before after c short read cover status h
