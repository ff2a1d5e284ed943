use Rattle.std.proofs.Common.{◌≡◌, List, Err, refl, ap, subst, arith}
use Rattle.std.specs.Prelude.{length}
use Rattle.std.proofs.lemmas.Bool.{false≢true}
use Rattle.siting_definitions.specs.Answer.{Head}
use Rattle.discard_log.specs.declared.node.Node.{Node}
use Rattle.resume_job.specs.declared.loading.LoadError.{LoadError}
use Rattle.resume_job.specs.Loading.{LoadReadsAtMost, UnlessLoadReadFault}
use Rattle.siting_definitions.specs.declared.TheConstants.{LOAD_LIMIT}
use Rattle.bsss_cli.specs.declared.status.Status.TheVariants.{Rejected, TooLong, ReadFault, NoMemory}
use Rattle.bsss_cli.specs.Status.{code_of}
use Rattle.bsss_cli.specs.Load.{loading}
use Rattle.bsss_cli.proofs.ReadingLemmas.{ReadsWithin-within, ReadsWithin-past}
use Rattle.bsss_cli.proofs.OutcomeLemmas.{Says-something, Ran-says, Ran-read_fault, Ran-no_memory}
use Rattle.bsss_cli.proofs.LoadLemmas.{loads_text, loads_all, loads_rejected, rejected_end, rejected_all, loads_too_long, refused_read, for_told, not_rejected}
use Rattle.bsss_cli.proofs.commands.load.load_answer.Goals as goal

abbrev Parts : Type 0
Parts = Head × List Node

pub returns-in-Ok : goal.returns-in-Ok
returns-in-Ok g c =
    let told = g.S.Source.left c.args.source.now in
    let left = g.S.Source.left c.load.new.source in
    let h = c.in-Ok.loaded.0 in
    let ns = c.in-Ok.loaded.1 in
    let ensures = c.in-Ok.ensures in (
      refl,
      record {
        parts = ensures.valid;
        text = loads_text told left h ns ensures.loads;
        read = loads_all told left h ns ensures.loads ensures.rest ensures.stop;
        source = λ status. record { later = ensures.later; heard = λ strict e. ensures.heard strict };
      },
    )

pub returns-in-Err-Check : goal.returns-in-Err-Check
returns-in-Err-Check g c =
    let told = g.S.Source.left c.args.source.now in
    let left = g.S.Source.left c.load.new.source in
    let faults = g.S.Source.faults in
    let quiet = faults c.load.new.source ≡ faults c.args.source.now in
    let fault = c.in-Err-Check.fault in
    let error = c.in-Err-Check.field-0 in
    let is = c.in-Err-Check.field-0-is in
    let ensures = c.in-Err-Check.ensures in
    let status = c.say_rejected.result in
    Ran-says {says = Rejected fault} loading c.args.source.now c.load.new.source refl
    (record {
      later = ensures.later;
      heard = λ strict e.
          subst (λ (x : LoadError). UnlessLoadReadFault {T = Parts} (Err x) quiet) is (ensures.heard strict);
    })
    refl (λ h. absurd (false≢true h))
    (refused_read told left error status ensures.rest ensures.stop
    (rejected_all told left status (rejected_end told left error fault is ensures.loads))
    (λ got stop. ReadsWithin-within LOAD_LIMIT got status
    (subst (λ (x : LoadError). LoadReadsAtMost {T = Parts} (length got) (Err x)) is stop)))
    (refl, loads_rejected told left error fault is ensures.fault ensures.loads)
    c.say_rejected.ensures

pub returns-in-Err-TooLong : goal.returns-in-Err-TooLong
returns-in-Err-TooLong g c =
    let told = g.S.Source.left c.args.source.now in
    let left = g.S.Source.left c.load.new.source in
    let faults = g.S.Source.faults in
    let quiet = faults c.load.new.source ≡ faults c.args.source.now in
    let error = c.in-Err-TooLong.field-0 in
    let is = c.in-Err-TooLong.field-0-is in
    let ensures = c.in-Err-TooLong.ensures in
    let status = c.say.result in
    Ran-says {says = TooLong} loading c.args.source.now c.load.new.source refl
    (record {
      later = ensures.later;
      heard = λ strict e.
          subst (λ (x : LoadError). UnlessLoadReadFault {T = Parts} (Err x) quiet) is (ensures.heard strict);
    })
    refl (λ h. absurd (false≢true h))
    (refused_read told left error status ensures.rest ensures.stop
    (for_told told (λ bytes fault e. absurd (not_rejected c.say.ensures fault e)))
    (λ got stop. ReadsWithin-past LOAD_LIMIT got status (Says-something refl c.say.ensures)
    (subst (λ (x : LoadError). LoadReadsAtMost {T = Parts} (length got) (Err x)) is stop).1))
    (refl, loads_too_long told left error is ensures.loads)
    c.say.ensures

pub returns-in-Err-ReadFault : goal.returns-in-Err-ReadFault
returns-in-Err-ReadFault g c =
    let told = g.S.Source.left c.args.source.now in
    let left = g.S.Source.left c.load.new.source in
    let error = c.in-Err-ReadFault.field-0 in
    let is = c.in-Err-ReadFault.field-0-is in
    let ensures = c.in-Err-ReadFault.ensures in
    Ran-read_fault loading _ _ _ refl
    (record { later = ensures.later; heard = λ strict none. absurd none })
    (ensures.read_fault (ap Err is))
    (refused_read told left error ReadFault ensures.rest ensures.stop
    (for_told told (λ bytes fault e. absurd (omega (arith, ap code_of e))))
    (λ got stop. ReadsWithin-within LOAD_LIMIT got ReadFault
    (subst (λ (x : LoadError). LoadReadsAtMost {T = Parts} (length got) (Err x)) is stop)))

pub returns-in-Err-NoMemory : goal.returns-in-Err-NoMemory
returns-in-Err-NoMemory g c =
    let told = g.S.Source.left c.args.source.now in
    let left = g.S.Source.left c.load.new.source in
    let faults = g.S.Source.faults in
    let quiet = faults c.load.new.source ≡ faults c.args.source.now in
    let error = c.in-Err-NoMemory.field-0 in
    let is = c.in-Err-NoMemory.field-0-is in
    let ensures = c.in-Err-NoMemory.ensures in
    Ran-no_memory loading _ _ _ refl refl
    (record {
      later = ensures.later;
      heard = λ strict e.
          subst (λ (x : LoadError). UnlessLoadReadFault {T = Parts} (Err x) quiet) is (ensures.heard strict);
    })
    (refused_read told left error NoMemory ensures.rest ensures.stop
    (for_told told (λ bytes fault e. absurd (omega (arith, ap code_of e))))
    (λ got stop. ReadsWithin-within LOAD_LIMIT got NoMemory
    (subst (λ (x : LoadError). LoadReadsAtMost {T = Parts} (length got) (Err x)) is stop)))
