use Rattle.std.proofs.Common.{◌≡◌, List, ℕ, IfSome, Ok, Err, refl, ap, ◌∙◌, subst}
use Rattle.std.specs.Prelude.{length}
use Rattle.std.proofs.lemmas.Bool.{false≢true}
use Rattle.port_io.specs.Whole.{ReadsAtMost, UnlessReadFault}
use Rattle.bsss_cli.specs.declared.status.Status.{Status}
use Rattle.bsss_cli.specs.declared.status.Status.TheVariants.{TooLong}
use Rattle.siting_definitions.specs.declared.TheConstants.{INSTANCE_LIMIT}
use Rattle.bsss_cli.specs.Outcome.{HasRead}
use Rattle.bsss_cli.specs.Solve.{solve}
use Rattle.bsss_cli.specs.Begun.{SaysInstance}
use Rattle.bsss_cli.proofs.ReadingLemmas.{OfBytes-told, ReadsWithin-within, ReadsWithin-past, has_read}
use Rattle.bsss_cli.proofs.SolveLemmas.{Ended-told}
use Rattle.bsss_cli.proofs.OutcomeLemmas.{MatchResult-map, Says-something, Ran-read, Ran-says}
use Rattle.bsss_cli.proofs.commands.solve.begin_solve.Goals as goal

pub returns-in-Ok : goal.returns-in-Ok
returns-in-Ok g c =
    let s = c.args.settings in
    let told = g.S.Source.left c.args.source.now in
    let left = g.S.Source.left c.read_up_to.new.source in
    let ensures = c.in-Ok.ensures in
    let all : IfSome told (λ (xs : List ℕ). c.as_slice.result.now ≡ xs) =
    rw c.as_slice.ensures.value ensures.bytes in
    let stops : (status : Status) → IfSome told (λ (xs : List ℕ). HasRead (solve s) told left status) =
    λ status. has_read (solve s) (λ n. ReadsAtMost INSTANCE_LIMIT n (Ok c.in-Ok.bytes)) told left
    status ensures.rest ensures.stop
    (λ got few. ReadsWithin-within INSTANCE_LIMIT got status few) in
    MatchResult-map c.begin_text.result
    (λ _ begun. (
      begun.0,
      record {
        instance = begun.1.0;
        text = OfBytes-told c.as_slice.result.now told (SaysInstance begun.1.0) all begun.1.1;
        job = begun.1.2;
        read = ensures.end;
        stops = stops;
        source = λ status. record { later = ensures.later; heard = λ strict e. ensures.heard strict };
      },
    ))
    (λ status ended. Ran-read (solve s) c.args.source.now c.read_up_to.new.source refl
    (record { later = ensures.later; heard = λ strict e. ensures.heard strict })
    (λ h. ensures.end) (stops status)
    (Ended-told s c.as_slice.result.now told all ended))
    c.begin_text.ensures

pub returns-in-Err-TooLong : goal.returns-in-Err-TooLong
returns-in-Err-TooLong g c =
    let s = c.args.settings in
    let told = g.S.Source.left c.args.source.now in
    let left = g.S.Source.left c.read_up_to.new.source in
    let faults = g.S.Source.faults in
    let quiet = faults c.read_up_to.new.source ≡ faults c.args.source.now in
    let ensures = c.read_up_to.ensures in
    let is = c.in-Err-TooLong.is ∙ ap Err c.in-Err-TooLong.field-0-is in
    Ran-says {says = TooLong} (solve s) c.args.source.now c.read_up_to.new.source refl
    (record {
      later = ensures.later;
      heard = λ strict e. subst (λ x. UnlessReadFault x quiet) is (ensures.heard strict);
    })
    refl (λ h. absurd (false≢true h))
    (has_read (solve s) (λ n. ReadsAtMost INSTANCE_LIMIT n c.read_up_to.result) told left
    c.say.result ensures.rest ensures.stop
    (λ got stopped. ReadsWithin-past INSTANCE_LIMIT got c.say.result
    (Says-something refl c.say.ensures)
    (subst (λ x. ReadsAtMost INSTANCE_LIMIT (length got) x) is stopped).1))
    (refl, ensures.too_long is) c.say.ensures
