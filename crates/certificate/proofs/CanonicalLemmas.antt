-- Bytes that are longer than the canonical text of an instance can be are no canonical text.
use Rattle.std.proofs.Common.{◌≡◌, ℕ, ◌<◌, Bool, List, length, refl, arith, None, Result, Ok, Err}
use Rattle.siting_definitions.specs.Instance.{Instance, IsInstance}
use Rattle.siting_definitions.specs.InstanceText.{instance_text}
use Rattle.instance_text.specs.Reading.{reading}
use Rattle.instance_text.specs.declared.faults.InstanceFault.{InstanceFault}
use Rattle.instance_text.proofs.ReadLawful.{IsInstance-reading}
use Rattle.certificate.specs.HeadReading.{if_canonical}
use Rattle.certificate.specs.PartReading.{part_limit}
use Rattle.instance_text.proofs.InstanceLengths.{length-instance_text}
use Rattle.certificate.proofs.ShortLemmas.{not_word}

pub too_long : (second : Bool) (bytes : List ℕ) → part_limit < length bytes → if_canonical second bytes (reading bytes) ≡ None
too_long second bytes long = by_reading (reading bytes) (λ i e. IsInstance-reading bytes i e)
  where
    by_reading : (r : Result Instance InstanceFault) → ((i : Instance) → r ≡ Ok i → IsInstance i) → if_canonical second bytes r ≡ None
    by_reading (Err fault) f = refl
    by_reading (Ok i) f =
        let short = length-instance_text i (f i refl) in
        rw (not_word (instance_text i) bytes (omega arith)) refl
