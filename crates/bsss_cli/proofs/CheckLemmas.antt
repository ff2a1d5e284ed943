-- What a check says of the bytes that its source told, and of some bytes where it told none.
use Rattle.std.proofs.Common.{◌≡◌, ◌≢◌, ℕ, ◌≤◌, Bool, true, false, cond, List, [], Option, None, Some, IfSome, Result, Ok, Err, ⊎_elim, refl, sym, ap, subst, ◌∙◌, append-nil}
use Rattle.std.specs.Prelude.{IsErrOf, IsTrue, ⊤}
use Rattle.std.proofs.lemmas.Bool.{false≢true}
use Rattle.port_io.specs.Faults.{Rose}
use Rattle.cert_checker.specs.declared.checking.Accepted.{Accepted as Said}
use Rattle.cert_checker.specs.declared.faults.CheckFault.{CheckFault}
use Rattle.cert_checker.specs.declared.faults.CheckError.{CheckError}
use Rattle.cert_checker.specs.declared.faults.CheckError.TheVariants as errors
use Rattle.certificate.specs.Beginnings.{nothing_read}
use Rattle.cert_checker.specs.Checking.{check_in, checking}
use Rattle.cert_checker.specs.CheckReading.{CheckRead, IsNeededSoFar, IsSettled, UnlessCheckReadFault}
use Rattle.pair_check.specs.BatchReading.{BatchesRead, IsAheadSoFar, UnlessFault}
use Rattle.pair_check.proofs.AheadLemmas.{none_ahead}
use Rattle.cert_checker.specs.Steps.{ChecksTo}
use Rattle.cert_checker.proofs.ValidLemmas.{accepted-valid, valid-accepted}
use Rattle.answer_model.proofs.ClaimsLemmas.{claims}
use Rattle.bsss_cli.specs.declared.status.Status.{Status}
use Rattle.bsss_cli.specs.declared.status.Status.TheVariants.{Accepted, Rejected, TooLong, ReadFault, NoMemory}
use Rattle.bsss_cli.specs.Status.{Nothing, meaning_of}
use Rattle.bsss_cli.specs.Ports.{SourceGhosts, SinkGhosts, TellsOfReads}
use Rattle.bsss_cli.specs.Outcome.{OfBytes, HasRead, Ran, Says}
use Rattle.bsss_cli.specs.Check.{IsAccepted, CheckAnswers, CheckStops, CheckWants, SaysVerdict, check}
use Rattle.bsss_cli.proofs.OutcomeLemmas.{ok≢err, Says-something, Ran-says, Ran-read_fault, Ran-no_memory}

accepted-claims : (bytes : List ℕ) (x : Said) → checking bytes ≡ Ok x → IsAccepted bytes
accepted-claims bytes x said =
    let r = accepted-valid bytes x said in
    record {
      answer = r.0;
      text = r.2;
      valid = r.1;
      claims = claims r.0 r.1;
    }

-- the bytes that a check accepts are the text of a valid answer
accepts : (told left : Option (List ℕ)) (x : Said)
    → IfSome told (λ bytes. ChecksTo (checking bytes) left (Ok x)) → BatchesRead told left (Ok x)
    → OfBytes told IsAccepted
accepts None left x h read = (read.got, accepted-claims read.got x read.says.0)
accepts (Some bytes) left x h read = accepted-claims bytes x h.0

-- and then nothing is left
read_to_end : (told left : Option (List ℕ)) (x : Said)
    → IfSome told (λ bytes. ChecksTo (checking bytes) left (Ok x))
    → IfSome told (λ bytes. left ≡ Some [])
read_to_end None left x h = tt
read_to_end (Some bytes) left x h = h.1

-- what is settled of some bytes is said of them
settled_says : (got : List ℕ) (answer : Result Said CheckError) → IsSettled got answer
    → checking got ≡ answer
settled_says got answer settled = ap checking (sym (append-nil got)) ∙ settled []

fault_said : (told left : Option (List ℕ)) (fault : CheckFault)
    → IfSome told (λ bytes. ChecksTo (checking bytes) left (Err (errors.Fault fault)))
    → BatchesRead told left (Err (errors.Fault fault))
    → OfBytes told (λ bytes. checking bytes ≡ Err (errors.Fault fault))
fault_said None left fault h read =
    (read.got, ⊎_elim (λ s. settled_says read.got _ s) (λ s. s.0) read.says)
fault_said (Some bytes) left fault h read = h

too_long_said : (told left : Option (List ℕ))
    → IfSome told (λ bytes. ChecksTo (checking bytes) left (Err errors.TooLong))
    → BatchesRead told left (Err errors.TooLong)
    → OfBytes told (λ bytes. checking bytes ≡ Err errors.TooLong)
too_long_said None left h read = (read.got, settled_says read.got _ read.says)
too_long_said (Some bytes) left h read = h

-- ---- how far a check reads
-- what was read by one worker settles the answer, as what was read by a team does
pub as_read : (told left : Option (List ℕ)) (r : Result Said CheckError) → CheckRead told left r
    → BatchesRead told left r
as_read told left r read = record {
  got = read.got;
  consumes = read.consumes;
  ahead = none_ahead check_in nothing_read read.got read.needed;
  says = read.says;
}

-- where something was to be written, one worker read no more than it needed
needed-stops : (got : List ℕ) (status : Status) → (meaning_of status).taken ≢ Nothing
    → IsNeededSoFar got → CheckStops false got status
needed-stops got ReadFault something needed = absurd (something refl)
needed-stops got NoMemory something needed = absurd (something refl)
needed-stops got status something needed = needed

pub read_as_needed : (told left : Option (List ℕ)) (r : Result Said CheckError) (status : Status)
    → (meaning_of status).taken ≢ Nothing → CheckRead told left r
    → IfSome told (λ bytes. HasRead (check false) told left status)
read_as_needed None left r status something read = tt
read_as_needed (Some bytes) left r status something read = record {
  got = read.got;
  consumed = read.consumes;
  stops = needed-stops read.got status something read.needed;
}

-- a team may have read ahead
ahead-stops : (got : List ℕ) (status : Status) → (meaning_of status).taken ≢ Nothing
    → IsAheadSoFar got → CheckStops true got status
ahead-stops got ReadFault something ahead = absurd (something refl)
ahead-stops got NoMemory something ahead = absurd (something refl)
ahead-stops got status something ahead = ahead

pub read_ahead : (told left : Option (List ℕ)) (r : Result Said CheckError) (status : Status)
    → (meaning_of status).taken ≢ Nothing → BatchesRead told left r
    → IfSome told (λ bytes. HasRead (check true) told left status)
read_ahead None left r status something read = tt
read_ahead (Some bytes) left r status something read = record {
  got = read.got;
  consumed = read.consumes;
  stops = ahead-stops read.got status something read.ahead;
}

-- where a verdict tells of reads: a team may have read on after a fault
abbrev pub Tells : (team : Bool) → Result Said CheckError → Type 0 → Type 0
Tells team (Ok said) quiet = quiet
Tells team (Err (errors.Fault fault)) quiet = cond team ⊤ quiet
Tells team (Err errors.TooLong) quiet = quiet
Tells team (Err errors.ReadFault) quiet = ⊤
Tells team (Err errors.NoMemory) quiet = quiet

pub heard_of_one : (quiet : Type 0) (verdict : Result Said CheckError)
    → UnlessCheckReadFault verdict quiet → Tells false verdict quiet
heard_of_one quiet (Ok said) h = h
heard_of_one quiet (Err (errors.Fault fault)) h = h
heard_of_one quiet (Err errors.TooLong) h = h
heard_of_one quiet (Err errors.ReadFault) h = tt
heard_of_one quiet (Err errors.NoMemory) h = h

pub heard_of_team : (quiet : Type 0) (verdict : Result Said CheckError)
    → UnlessFault verdict quiet → Tells true verdict quiet
heard_of_team quiet (Ok said) h = h
heard_of_team quiet (Err (errors.Fault fault)) h = tt
heard_of_team quiet (Err errors.TooLong) h = h
heard_of_team quiet (Err errors.ReadFault) h = tt
heard_of_team quiet (Err errors.NoMemory) h = h

-- a rejection that was said, or could not be said, tells nothing of a team's reads
rejection_tells : {K : Type 0} {k : SinkGhosts K} {before after : K} {text : List ℕ}
    {status : Status} {fault : CheckFault} (quiet : Type 0) (team : Bool)
    → Says k before after (Rejected fault) text status → TellsOfReads team status
    → Tells team (Err (errors.Fault fault)) quiet → quiet
rejection_tells quiet false said h tells = tells
rejection_tells {status = status} quiet true said h tells =
    let Told : Status → Type 0 = λ s. TellsOfReads true s in
    absurd (⊎_elim (λ all. subst Told all.0 h) (λ cut. subst Told cut.0 h) said.outcome)

read_before_fault : (team : Bool) (told left : Option (List ℕ))
    → BatchesRead told left (Err errors.ReadFault)
    → IfSome told (λ bytes. HasRead (check team) told left ReadFault)
read_before_fault team None left read = tt
read_before_fault team (Some bytes) left read =
    record { got = read.got; consumed = read.consumes; stops = read.says }

read_of_head : (team : Bool) (told left : Option (List ℕ))
    → BatchesRead told left (Err errors.NoMemory)
    → IfSome told (λ bytes. HasRead (check team) told left NoMemory)
read_of_head team None left read = tt
read_of_head team (Some bytes) left read =
    record { got = read.got; consumed = read.consumes; stops = read.says }

-- ---- a run with a check
-- what a check by one worker, or by a team, tells of its source
pub record IsChecked {S : Type 0} (team : Bool) (s : SourceGhosts S) (old new : S)
    (verdict : Result Said CheckError) : Type 0 where
  pub answers : IfSome (s.left old) (λ bytes. ChecksTo (checking bytes) (s.left new) verdict)
  pub read_fault : IsErrOf verdict errors.ReadFault → Rose (s.faults old) (s.faults new)
  pub read : BatchesRead (s.left old) (s.left new) verdict
  pub stops : (status : Status) → (meaning_of status).taken ≢ Nothing
      → IfSome (s.left old) (λ bytes. HasRead (check team) (s.left old) (s.left new) status)
  pub later : s.faults old ≤ s.faults new
  pub heard : IsTrue s.is_strict → Tells team verdict (s.faults new ≡ s.faults old)

-- a run that says the verdict is that of the command
pub Ran-checked : {S K : Type 0} {s : SourceGhosts S} {k : SinkGhosts K} {before after : K}
    (team : Bool) (old new : S) (verdict : Result Said CheckError) (status : Status)
    → IsChecked team s old new verdict → SaysVerdict k before after verdict status
    → Ran s k (check team) old new before after status
Ran-checked {s = s} team old new (Ok said) status h says =
    Ran-says {says = Accepted} (check team) old new refl
    (record { later = h.later; heard = λ strict e. h.heard strict })
    refl (λ e. read_to_end (s.left old) (s.left new) said h.answers)
    (h.stops status (Says-something refl says))
    (refl, accepts (s.left old) (s.left new) said h.answers h.read) says
Ran-checked {s = s} team old new (Err (errors.Fault fault)) status h says =
    Ran-says {says = Rejected fault} (check team) old new refl
    (record { later = h.later; heard = λ strict e. rejection_tells _ team says e (h.heard strict) })
    refl (λ e. absurd (false≢true e))
    (h.stops status (Says-something refl says))
    (refl, fault_said (s.left old) (s.left new) fault h.answers h.read)
    says
Ran-checked {s = s} team old new (Err errors.TooLong) status h says =
    Ran-says {says = TooLong} (check team) old new refl
    (record { later = h.later; heard = λ strict e. h.heard strict })
    refl (λ e. absurd (false≢true e))
    (h.stops status (Says-something refl says))
    (refl, too_long_said (s.left old) (s.left new) h.answers h.read) says
Ran-checked {s = s} {k = k} {before = before} team old new (Err errors.ReadFault) status h says =
    rw (says.0, says.1)
    (Ran-read_fault (check team) old new before refl
    (record { later = h.later; heard = λ strict none. absurd none })
    (h.read_fault refl)
    (read_before_fault team (s.left old) (s.left new) h.read))
Ran-checked {s = s} {k = k} {before = before} team old new (Err errors.NoMemory) status h says =
    rw (says.0, says.1)
    (Ran-no_memory (check team) old new before refl refl
    (record { later = h.later; heard = λ strict e. h.heard strict })
    (read_of_head team (s.left old) (s.left new) h.read))

-- ---- what a check must answer
is_accepted : (bytes : List ℕ) (status : Status) (text : List ℕ) (x : Said)
    → checking bytes ≡ Ok x → CheckAnswers (Some bytes) status text → status ≡ Accepted
is_accepted bytes Accepted text x ok h = refl
is_accepted bytes (Rejected fault) text x ok h = absurd (ok≢err (checking bytes) x _ ok h.1)
is_accepted bytes TooLong text x ok h = absurd (ok≢err (checking bytes) x _ ok h.1)
is_accepted bytes status text x ok h = absurd h

-- each answer of a check is one that is wanted
pub check_wants : (told : Option (List ℕ)) (status : Status) (text : List ℕ)
    → CheckAnswers told status text → CheckWants told status
check_wants None status text h = tt
check_wants (Some bytes) status text h =
    λ a valid e. is_accepted bytes status text _ (ap checking e ∙ valid-accepted a valid) h
