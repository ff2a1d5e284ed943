-- Laws of the texts of instances.
use Rattle.std.specs.Prelude.{◌≡◌, ◌↔◌, ℕ, ◌<◌, ◌≤◌, List, [], ◌∷◌, ◌++◌, length, All, Ok, Err}
use Rattle.siting_definitions.specs.Instance.{Instance, IsInstance}
use Rattle.siting_definitions.specs.InstanceText.{instance_lines, instance_text}
use Rattle.siting_definitions.specs.Line.{line_text}
use Rattle.instance_text.specs.declared.faults.InstanceFault.{InstanceFault}
use Rattle.instance_text.specs.Reading.{reading}
use Rattle.instance_text.specs.InstanceTexts.{IsInstanceText}
use Rattle.instance_text.specs.FirstFault.{IsFirstFault}

-- the canonical text of an instance is read as that instance
abbrev pub TextReadsBack : Type 0
TextReadsBack = (i : Instance) → IsInstance i → reading (instance_text i) ≡ Ok i

-- no text is the canonical text of two instances
abbrev pub TextsDiffer : Type 0
TextsDiffer =
    (i j : Instance) → IsInstance i → IsInstance j → instance_text i ≡ instance_text j → i ≡ j

-- an instance that a text says keeps the limits
abbrev pub TextKeepsLimits : Type 0
TextKeepsLimits = (bytes : List ℕ) (i : Instance) → reading bytes ≡ Ok i → IsInstance i

-- a text is read as an instance exactly where its rows say that instance
abbrev pub TextSaysItsRows : Type 0
TextSaysItsRows = (bytes : List ℕ) (i : Instance) → (reading bytes ≡ Ok i) ↔ IsInstanceText bytes i

-- a text is refused with a fault exactly where that is its first one
abbrev pub TextHasItsFirstFault : Type 0
TextHasItsFirstFault =
    (bytes : List ℕ) (fault : InstanceFault) → (reading bytes ≡ Err fault) ↔ IsFirstFault bytes fault

-- a canonical text that lacks its last line feed alone is read as the same instance
abbrev pub UnendedTextReadsBack : Type 0
UnendedTextReadsBack =
    (i : Instance) → IsInstance i → (front : List ℕ) → instance_text i ≡ front ++ 10 ∷ []
    → reading front ≡ Ok i

-- and one that lacks more has a fault
abbrev pub CutTextIsRefused : Type 0
CutTextIsRefused =
    (i : Instance) → IsInstance i → (front rest : List ℕ) → instance_text i ≡ front ++ rest
    → 2 ≤ length rest → (fault : InstanceFault) × (reading front ≡ Err fault)

-- the canonical text of an instance is short: in bytes, with the line feeds
abbrev pub CanonicalTextIsShort : Type 0
CanonicalTextIsShort = (i : Instance) → IsInstance i → length (instance_text i) ≤ 305344

-- and so is each of its lines
abbrev pub CanonicalLinesAreShort : Type 0
CanonicalLinesAreShort =
    (i : Instance) → IsInstance i
    → All (λ (line : List (List ℕ)). length (line_text line) < 1200) (instance_lines i)
